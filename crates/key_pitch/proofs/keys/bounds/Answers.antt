use Rattle.key_pitch.proofs.Placed.{some_pitch, no_pitch}
use Rattle.key_pitch.proofs.Few.{key_none}
use Rattle.key_pitch.proofs.keys.bounds.Goals as goal

pub returns-in_default-clause-found : goal.returns-in_default-clause-found
returns-in_default-clause-found c =
    let r = some_pitch _ _ _ c.args.tuned c.requires.tuned in
    key_none c.args.scale.now c.args.mapping.now c.args.key r.0 r.1 (no_pitch _ _ _ c.in_default.ensures.sum)
