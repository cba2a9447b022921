use Rattle.std.proofs.Common.{◌++◌, length, ap, sym, subst, ◌∙◌}
use Rattle.mt_base.specs.Midi.{view}
use Rattle.midi_model.specs.Merged.{IsPlayable}
use Rattle.event_stream.specs.Distributed.{MayPut}
use Rattle.event_stream.proofs.Putting.{may_put}
use Rattle.event_stream.proofs.tests.put_all.Goals as goal

pub put-requires-clause-valid : goal.put-requires-clause-valid
put-requires-clause-valid g c =
    let n = length c.args.set.now in
    let inv = c.loop-event.invariant in
    let parts = inv.1 ∙ ap (λ l. inv.0 ++ l) c.in-Some.ensures.some in
    let may = may_put n inv.0 (view c.in-Some.event) _ (subst (IsPlayable n) parts c.requires.playable) in
    (subst (λ s. MayPut s (view c.in-Some.event)) (sym inv.2) may).valid

pub put-requires-clause-exists : goal.put-requires-clause-exists
put-requires-clause-exists g c =
    let n = length c.args.set.now in
    let inv = c.loop-event.invariant in
    let parts = inv.1 ∙ ap (λ l. inv.0 ++ l) c.in-Some.ensures.some in
    let may = may_put n inv.0 (view c.in-Some.event) _ (subst (IsPlayable n) parts c.requires.playable) in
    (subst (λ s. MayPut s (view c.in-Some.event)) (sym inv.2) may).exists

pub put-requires-clause-open : goal.put-requires-clause-open
put-requires-clause-open g c =
    let n = length c.args.set.now in
    let inv = c.loop-event.invariant in
    let parts = inv.1 ∙ ap (λ l. inv.0 ++ l) c.in-Some.ensures.some in
    let may = may_put n inv.0 (view c.in-Some.event) _ (subst (IsPlayable n) parts c.requires.playable) in
    (subst (λ s. MayPut s (view c.in-Some.event)) (sym inv.2) may).open_still

pub put-requires-clause-order : goal.put-requires-clause-order
put-requires-clause-order g c =
    let n = length c.args.set.now in
    let inv = c.loop-event.invariant in
    let parts = inv.1 ∙ ap (λ l. inv.0 ++ l) c.in-Some.ensures.some in
    let may = may_put n inv.0 (view c.in-Some.event) _ (subst (IsPlayable n) parts c.requires.playable) in
    (subst (λ s. MayPut s (view c.in-Some.event)) (sym inv.2) may).in_order
