use Rattle.state_laws.proofs.Laws.{laws}
use Rattle.state_laws.proofs.Chains.{brings_several}
use Rattle.state_laws.proofs.several.several_arrive.Goals as goal

pub returns : goal.returns
returns c =
    let e = c.parameter_laws.ensures in
    let l = laws e.given e.others e.form e.equal in
    λ m t track gs h. brings_several l c.music_laws.ensures.settled m t track gs h.settled h.no_zone h.once
