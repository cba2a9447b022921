use Rattle.std.proofs.Common.{◌<◌, ◌≤◌, ◌^◌, ◌∙◌, length, get_or, arith, ap, subst}
use Rattle.std.specs.Prelude.{All}
use Rattle.std.proofs.lemmas.List.{take_all}
use Rattle.std.proofs.lemmas.List.Elements.{All-more}
use Rattle.midi_model.specs.Writing.{Written}
use Rattle.route_bend.proofs.tests.are_short.Goals as goal

pub loop-track-preserved : goal.loop-track-preserved
loop-track-preserved c =
    let items = c.args.tracks.now.items in
    let lt : c.loop-track.track-index < length items = grind (arith, c.loop-track-test.true, c.deref-track-items.ensures.value) in
    All-more (λ (t : Written). length t.bytes < 2 ^ 32) items c.loop-track.track-index c.track-item.result lt c.loop-track.invariant
    (subst (λ (t : Written). length t.bytes < 2 ^ 32)
    (c.track-item.is ∙ ap (λ l. get_or l c.loop-track.track-index c.track-item.result) c.deref-track-items.ensures.value)
    (omega (arith, c.len.ensures, c.if-len-ge4294967296.false)))

pub returns : goal.returns
returns c _ =
    let items = c.args.tracks.now.items in
    let le : length items ≤ c.loop-track.track-index = grind (arith, c.loop-track-test.false, c.deref-track-items.ensures.value) in
    subst (All (λ (t : Written). length t.bytes < 2 ^ 32)) (take_all c.loop-track.track-index items le) c.loop-track.invariant
