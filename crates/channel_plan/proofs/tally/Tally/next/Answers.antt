use Rattle.std.proofs.Common.{◌≡◌, ◌∙◌, ℕ, suc, Option, filter, take, sym, ap, subst}
use Rattle.std.specs.Prelude.{OnOk}
use Rattle.channel_plan.specs.Tallies.{TallyStands}
use Rattle.retune_model.specs.Ports.{tick_to}
use Rattle.retune_model.specs.PortNeed.{pairs_on}
use Rattle.lifetimes.specs.Stands.{asked, table_in}
use Rattle.lifetimes.specs.Told.{is_held}
use Rattle.plan_laws.specs.Counting.{with_each}
use Rattle.channel_plan.specs.Passing.{channels_in}
use Rattle.channel_plan.specs.Counts.{IsTimed, pairs_in, pairs_begun}
use Rattle.channel_plan.proofs.BegunPairs.{goes_on, two_ok}
use Rattle.channel_plan.proofs.tally.Tally.next.Goals as goal

pub returns-clause-stands : goal.returns-clause-stands
returns-clause-stands g c es k e stands next at timed old =
    let o = asked c.args.parts.now in
    let table = g.T.Aims.table (table_in c.args.parts.now) in
    let t = c.args.self.now in
    let front = take (suc k) es in
    let same = goes_on c.counting_laws.ensures.pairs c.counting_laws.ensures.begun c.counting_laws.ensures.aimed o table es k e c.args.change.now
    t.port t.part old.bends old.parts next (record { bends = old.bends; in_order = stands.order; faultless = stands.faultless })
    c.begun_pair-begun.result c.begun_pair-begun.ensures in
    let kept : filter (is_held o table front) (pairs_on o (channels_in o t.part) table es t.port k) ≡ pairs_in c.leave.new.self.counter =
    ap (filter (is_held o table front)) (sym old.counts.pairs) ∙ sym (c.leave.ensures.pairs es k e stands next old) in
    let at_next = same ∙ ap (with_each (pairs_begun c.begun_pair-begun.result)) kept in
    let new = c.leave.new.self in
    let before = subst (IsTimed (tick_to es)) (sym c.leave.ensures.instant) old.timed in
    let Told : ℕ → Option ℕ → Type 0 =
    λ z part. OnOk c.next.result (TallyStands o table es (suc k) (record { port = z; part = part; counter = c.next.new.self })) in
    subst (λ z. Told z new.part) (sym c.leave.ensures.port) (subst (λ q. Told t.port q) (sym c.leave.ensures.part)
    (two_ok c.next.result (λ counts now. record { bends = old.bends; parts = old.parts; counts = counts; timed = now })
    (c.next.ensures.counts (pairs_on o (channels_in o t.part) table es t.port) k
    (c.leave.ensures.most (pairs_on o (channels_in o t.part) table es t.port) k old.counts.most) at at_next)
    (c.next.ensures.timed (tick_to es) before timed)))
