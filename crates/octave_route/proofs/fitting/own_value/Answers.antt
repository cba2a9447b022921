use Rattle.std.proofs.Common.{pos, ◌+ℤ◌, ◌-ℤ◌, ◌*ℤ◌, ◌≡◌, None, Some, sym, ◌∙◌, ap, arith, get_or}
use Rattle.std.proofs.lemmas.Int.{ints}
use Rattle.key_pitch.specs.Aims.{table_of}
use Rattle.key_pitch.specs.Views.{bounds_if}
use Rattle.octave_route.specs.Classes.{own_value}
use Rattle.octave_route.proofs.Own.{lo_within, own_is}
use Rattle.octave_route.proofs.fitting.own_value.Goals as goal

pub steps-requires-clause-low : goal.steps-requires-clause-low
steps-requires-clause-low c =
    let e : bounds_if (Some c.unwrap-lo.result) ≡ table_of c.args.table.now c.args.key = ap bounds_if (sym c.unwrap-lo.ensures) ∙ c.pitch.ensures.bounds in
    let w = lo_within (get_or c.args.table.now.pitches c.args.key None) c.unwrap-lo.result e (c.args.table.now.narrow.each c.args.key) in
    omega (arith, ints, w.0, w.1, c.requires.key)

pub steps-requires-clause-high : goal.steps-requires-clause-high
steps-requires-clause-high c =
    let e : bounds_if (Some c.unwrap-lo.result) ≡ table_of c.args.table.now c.args.key = ap bounds_if (sym c.unwrap-lo.ensures) ∙ c.pitch.ensures.bounds in
    let w = lo_within (get_or c.args.table.now.pitches c.args.key None) c.unwrap-lo.result e (c.args.table.now.narrow.each c.args.key) in
    omega (arith, ints, w.0, w.1, c.requires.key)

pub returns-clause-value : goal.returns-clause-value
returns-clause-value c =
    let e : bounds_if (Some c.unwrap-lo.result) ≡ table_of c.args.table.now c.args.key = ap bounds_if (sym c.unwrap-lo.ensures) ∙ c.pitch.ensures.bounds in
    let w = lo_within (get_or c.args.table.now.pitches c.args.key None) c.unwrap-lo.result e (c.args.table.now.narrow.each c.args.key) in
    let is : pos 8192 +ℤ c.steps.result ≡ own_value (table_of c.args.table.now) c.args.key =
    own_is c.args.table.now c.args.key c.unwrap-lo.result c.steps.result e
    (c.steps.ensures.value ((c.unwrap-lo.result.lo.0 -ℤ pos c.args.key *ℤ pos 3200000000000) +ℤ pos 195312500) (omega (arith, ints, w.0, w.1, c.requires.key))) in
    omega (arith, ints, is, c.steps.ensures.low, c.steps.ensures.high)
