use Rattle.std.proofs.Common.{◌≡◌, ◌++◌, ◌∷◌, [], map, length, ap, arith, length-append}
use Rattle.std.proofs.lemmas.List.{map_push}
use Rattle.std.proofs.lemmas.Result.{err_from_is_err_and}
use Rattle.smf_read.specs.Views.{content_of}
use Rattle.midi_model.specs.FileText.{tracks_at}
use Rattle.smf_read.proofs.Tracks.{goes_on, ends, is_done}
use Rattle.smf_read.proofs.Sounds.{tracks_sound}
use Rattle.smf_read.proofs.file.tracks.Goals as goal

pub returns-in_err-content-clause-gives : goal.returns-in_err-content-clause-gives
returns-in_err-content-clause-gives c =
    let p = err_from_is_err_and c.from_residual.result c.from_residual.ensures.1 in
    rw (p.1, p.2) (ends _ (map content_of c.loop.contents.items) c.args.count c.loop.counter c.loop.rest.now (tracks_at c.args.count c.args.bytes.now) c.loop-test.true c.in_err-content.ensures.gives c.loop.invariant.told)

pub loop-preserved : goal.loop-preserved
loop-preserved c =
    let n = c.in_ok-content.content in
    let e : map content_of c.push.new.self.items ≡ map content_of c.loop.contents.items ++ n.now ∷ [] = rw c.in_ok-push.ensures.items (map_push _ c.loop.contents.items n) in
    record {
      told = rw e (goes_on (map content_of c.loop.contents.items) c.args.count c.loop.counter c.loop.rest.now n.now c.in_ok-content.after.now (tracks_at c.args.count c.args.bytes.now) c.loop-test.true c.in_ok-content.ensures.gives c.loop.invariant.told);
      count = omega (arith, ap length c.in_ok-push.ensures.items, length-append c.loop.contents.items (n ∷ []), c.loop.invariant.count);
    }

pub returns-clause-gives : goal.returns-clause-gives
returns-clause-gives c = is_done (map content_of c.loop.contents.items) c.args.count c.loop.counter c.loop.rest.now (tracks_at c.args.count c.args.bytes.now) c.loop-test.false c.loop.invariant.told

pub returns-clause-together : goal.returns-clause-together
returns-clause-together c =
    let read = is_done (map content_of c.loop.contents.items) c.args.count c.loop.counter c.loop.rest.now (tracks_at c.args.count c.args.bytes.now) c.loop-test.false c.loop.invariant.told in
    let few = c.reading_laws.ensures.few c.args.count c.args.bytes.now (map content_of c.loop.contents.items, c.loop.rest.now) read in
    omega (arith, few)

pub returns-clause-sound : goal.returns-clause-sound
returns-clause-sound c few =
    let read = is_done (map content_of c.loop.contents.items) c.args.count c.loop.counter c.loop.rest.now (tracks_at c.args.count c.args.bytes.now) c.loop-test.false c.loop.invariant.told in
    tracks_sound c.reading_laws.ensures.whole c.args.count c.args.bytes.now (map content_of c.loop.contents.items, c.loop.rest.now) few read
