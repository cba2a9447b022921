use Rattle.std.proofs.Common.{◌≡◌, [], length, replicate, arith, refl, sym, ap, ◌∙◌}
use Rattle.std.proofs.lemmas.List.{length-replicate}
use Rattle.midi_model.specs.Writing.{written, events_bytes}
use Rattle.event_stream.specs.Distributed.{all_bytes}
use Rattle.event_stream.proofs.Putting.{none_put, no_bytes}
use Rattle.event_stream.proofs.tracks.TrackSet.new.Goals as goal

pub returns-clause-stands : goal.returns-clause-stands
returns-clause-stands c =
    let all : c.loop.counter ≡ c.args.tracks = omega (arith, c.loop-test.false, c.loop.auto.counter-end) in
    c.loop.invariant ∙ ap (λ n. replicate n (written [])) all ∙ sym (none_put 0 c.args.tracks)

pub returns-clause-count : goal.returns-clause-count
returns-clause-count c =
    let all : c.loop.counter ≡ c.args.tracks = omega (arith, c.loop-test.false, c.loop.auto.counter-end) in
    ap length c.loop.invariant ∙ length-replicate c.loop.counter (written []) ∙ all

pub returns-clause-empty : goal.returns-clause-empty
unfolding events_bytes
returns-clause-empty c = ap all_bytes c.loop.invariant ∙ no_bytes c.loop.counter (written []) refl
