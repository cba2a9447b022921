use Rattle.std.proofs.Common.{rules, ◌≡◌, ◌∙◌, false, refl, sym, w32, to_z, of_z}
use Rattle.lifetimes.specs.Lists.{has_steps}
use Rattle.lifetimes.proofs.PartEnding.{one_forgotten}
use Rattle.lifetimes.proofs.notes.Notes.run_out.Goals as goal

pub returns-then-not-sounds : goal.returns-then-not-sounds
returns-then-not-sounds c = λ tick tail over.
    let silent : has_steps c.args.self.now.sounding.items (to_z w32 (of_z w32 c.args.steps)) ≡ false = sym c.sounds.ensures.listed
    ∙ search (rules, c.if-not-sounds.true) in
    one_forgotten (to_z w32 (of_z w32 c.args.steps)) c.args.end tick tail c.args.self.now _ over refl refl silent c.forget.ensures.ends c.forget.ensures.admitted
