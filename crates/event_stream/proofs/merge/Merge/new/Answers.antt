use Rattle.std.proofs.Common.{◌≡◌, ◌<◌, ◌≤◌, [], length, map, take, arith, sym, subst, ◌∙◌}
use Rattle.std.proofs.lemmas.List.{length-set}
use Rattle.midi_model.specs.Merged.{IsPlayable}
use Rattle.smf_read.specs.Remaining.{remaining, all_of}
use Rattle.event_stream.specs.Merges.{parts_left, whole_parts}
use Rattle.event_stream.proofs.Parts.{placed_from, length_placed, placed_at}
use Rattle.event_stream.proofs.Cursors.{one_more_of, all_placed, merge_start, merged_start}
use Rattle.event_stream.proofs.merge.Merge.new.Goals as goal

pub loop-track-preserved : goal.loop-track-preserved
loop-track-preserved c =
    let cursors = c.loop-track.cursors in
    let track = c.loop-track.track in
    let inv = c.loop-track.invariant in
    let ts = c.args.smf.now.tracks in
    let lt : track < length cursors = omega (arith, inv.size, c.loop-track-test.true, c.tracks-tracks.ensures.few) in
    let lt2 : track < length (placed_from 0 ts) = omega (arith, length_placed 0 ts, c.tracks-tracks.ensures.value, c.loop-track-test.true) in
    let here = placed_at 0 track track ts (omega arith) in
    record {
      size = length-set cursors track c.cursor.result ∙ inv.size;
      left = one_more_of remaining cursors (placed_from 0 ts) track c.cursor.result [] lt lt2 inv.left (c.cursor.ensures.rest ∙ sym here);
      whole = one_more_of all_of cursors (placed_from 0 ts) track c.cursor.result [] lt lt2 inv.whole (c.cursor.ensures.all ∙ sym here);
    }

left_placed : (c : goal.After-first-first) → parts_left c.tracks-tracks.result c.loop-track.cursors ≡ placed_from 0 c.args.smf.now.tracks
left_placed c =
    let same : c.loop-track.track ≡ c.tracks-tracks.result = omega (arith, c.loop-track-test.false, c.loop-track.auto.track-end) in
    let ts = c.args.smf.now.tracks in
    all_placed c.tracks-tracks.result (map remaining c.loop-track.cursors) ts c.tracks-tracks.ensures.value
    (subst (λ n. take n (map remaining c.loop-track.cursors) ≡ take n (placed_from 0 ts)) same c.loop-track.invariant.left)

whole_placed : (c : goal.After-first-first) → whole_parts c.tracks-tracks.result c.loop-track.cursors ≡ placed_from 0 c.args.smf.now.tracks
whole_placed c =
    let same : c.loop-track.track ≡ c.tracks-tracks.result = omega (arith, c.loop-track-test.false, c.loop-track.auto.track-end) in
    let ts = c.args.smf.now.tracks in
    all_placed c.tracks-tracks.result (map all_of c.loop-track.cursors) ts c.tracks-tracks.ensures.value
    (subst (λ n. take n (map all_of c.loop-track.cursors) ≡ take n (placed_from 0 ts)) same c.loop-track.invariant.whole)

pub invariant_of-result : goal.invariant_of-result
invariant_of-result c =
    merge_start c.tracks-tracks.result c.first-first.result c.loop-track.cursors c.keys_of-keys.result c.args.smf.now.tracks c.tracks-tracks.ensures.some c.tracks-tracks.ensures.few c.loop-track.invariant.size
    (left_placed c) (whole_placed c) c.tracks-tracks.ensures.each c.keys_of-keys.ensures c.first-first.ensures.least c.first-first.ensures.among

pub returns-clause-all : goal.returns-clause-all
returns-clause-all c = merged_start _ c.args.smf.now.tracks (whole_placed c)

pub returns-clause-rest : goal.returns-clause-rest
returns-clause-rest c = merged_start _ c.args.smf.now.tracks (left_placed c)

pub returns-clause-playable : goal.returns-clause-playable
returns-clause-playable c =
    subst (IsPlayable (length c.args.smf.now.tracks)) (sym (merged_start _ c.args.smf.now.tracks (whole_placed c))) c.tracks-tracks.ensures.playable

pub returns-clause-few : goal.returns-clause-few
returns-clause-few c =
    subst (λ l. length l ≤ 2097152) (sym (merged_start _ c.args.smf.now.tracks (whole_placed c))) c.tracks-tracks.ensures.in_all
