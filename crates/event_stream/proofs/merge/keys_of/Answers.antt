use Rattle.std.proofs.Common.{◌<◌, ◌≤◌, length, arith, ap, sym, ◌∙◌, take}
use Rattle.std.proofs.lemmas.List.{length-set, take_all}
use Rattle.event_stream.specs.Keys.{keys_of}
use Rattle.event_stream.specs.Merges.{untracked, parts_left}
use Rattle.event_stream.proofs.Cursors.{one_more, key_in, count_keys}
use Rattle.event_stream.proofs.merge.keys_of.Goals as goal

pub loop-track-preserved : goal.loop-track-preserved
loop-track-preserved c =
    let keys = c.loop-track.keys in
    let track = c.loop-track.track in
    let all = keys_of 0 (untracked (parts_left c.args.tracks c.args.cursors.now)) in
    let room : c.args.tracks ≤ length c.args.cursors.now = omega (arith, c.requires.few, c.requires.size) in
    let count = count_keys c.args.tracks c.args.cursors.now room in
    let low : track < length keys = omega (arith, c.loop-track.invariant.count, c.loop-track-test.true) in
    let low2 : track < length all = omega (arith, count, c.loop-track-test.true) in
    let here = c.key_at.ensures ∙ key_in c.args.tracks track c.args.cursors.now c.loop-track-test.true room in
    record {
      count = ap length c.set.ensures.set ∙ length-set keys track c.key_at.result ∙ c.loop-track.invariant.count;
      keys = ap (take _) c.set.ensures.set ∙ one_more keys all track c.key_at.result 0 low low2 c.loop-track.invariant.keys here;
    }

pub returns : goal.returns
returns c =
    let all = keys_of 0 (untracked (parts_left c.args.tracks c.args.cursors.now)) in
    let room : c.args.tracks ≤ length c.args.cursors.now = omega (arith, c.requires.few, c.requires.size) in
    let count = count_keys c.args.tracks c.args.cursors.now room in
    let one = take_all c.loop-track.track c.loop-track.keys (omega (arith, c.loop-track.invariant.count, c.loop-track-test.false)) in
    let other = take_all c.loop-track.track all (omega (arith, count, c.loop-track-test.false)) in
    sym one ∙ c.loop-track.invariant.keys ∙ other
