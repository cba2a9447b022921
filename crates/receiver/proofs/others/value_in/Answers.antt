use Rattle.std.proofs.Common.{refl, ◌∙◌}
use Rattle.receiver.specs.Params.{numbered}
use Rattle.receiver.proofs.Putting.{moved_found, moved_absent, value_found, value_absent, no_param}
use Rattle.receiver.proofs.others.value_in.Goals as goal

pub returns-in-Ok : goal.returns-in-Ok
returns-in-Ok c =
    let os = c.args.others.now in
    let f = moved_found os os _ _ c.in-Ok.at refl c.rank_of.ensures (c.in-Ok.ensures.found.0, c.in-Ok.ensures.found.1, c.in-Ok.ensures.before) in
    value_found os c.in-Ok.at (numbered c.args.registered c.args.high c.args.low) no_param f.2 f.0 f.1

pub returns-in-Err : goal.returns-in-Err
returns-in-Err c =
    let os = c.args.others.now in
    let f = moved_absent os os _ _ c.in-Err.field-0 refl c.rank_of.ensures (c.in-Err.ensures.bound, c.in-Err.ensures.above, c.in-Err.ensures.below) in
    c.default_of.ensures ∙ value_absent os c.in-Err.field-0 (numbered c.args.registered c.args.high c.args.low) c.requires f.2 f.0 f.1
