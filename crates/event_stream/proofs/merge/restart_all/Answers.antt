use Rattle.std.proofs.Common.{◌<◌, [], length, map, get_or, arith, ap, sym, ◌∙◌}
use Rattle.std.proofs.lemmas.List.{length-set, length-map, get_or-map}
use Rattle.smf_read.specs.Remaining.{remaining, all_of}
use Rattle.event_stream.proofs.Cursors.{one_more_of, same_of}
use Rattle.event_stream.proofs.merge.restart_all.Goals as goal

pub loop-place-preserved : goal.loop-place-preserved
loop-place-preserved c =
    let cursors = c.loop-place.cursors in
    let place = c.loop-place.place in
    let cursor = c.restart.new.self in
    let inv = c.loop-place.invariant in
    let lt : place < length cursors = omega (arith, c.loop-place-test.true, inv.size) in
    let whole = get_or-map all_of cursors place c.index-cursors-place.result [] lt in
    let lt2 : place < length (map all_of c.args.cursors.now) = omega (arith, lt, inv.size, length-map c.args.cursors.now all_of) in
    let here = c.restart.ensures.rest ∙ sym whole ∙ ap (λ l. get_or l place []) inv.all in
    record {
      size = length-set cursors place cursor ∙ inv.size;
      rest = one_more_of remaining cursors (map all_of c.args.cursors.now) place cursor [] lt lt2 inv.rest here;
      all = same_of all_of cursors place cursor [] (c.restart.ensures.all ∙ sym whole) ∙ inv.all;
    }
