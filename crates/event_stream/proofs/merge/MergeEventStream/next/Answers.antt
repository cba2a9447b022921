use Rattle.std.proofs.Common.{[], map, get_or, ap, sym, refl, ◌∙◌}
use Rattle.smf_read.specs.Remaining.{remaining}
use Rattle.event_stream.proofs.Cursors.{merge_found, found_in, in_table, in_keys, Stepped, merge_next, rest_next, never_none, nothing_left, some_at}
use Rattle.event_stream.proofs.merge.MergeEventStream.next.Goals as goal

pub returns-in-None-clause-none : goal.returns-in-None-clause-none
returns-in-None-clause-none c =
    let i = c.self.inside in
    let none = ap (λ v. v.rest) (sym c.self.view_is) ∙ nothing_left i.tracks i.first i.cursors i.keys c.self.invariant c.in-None.ensures.none in
    (none, none)

pub take_next-event-requires : goal.take_next-event-requires
take_next-event-requires c =
    let i = c.self.inside in
    let f = merge_found i.tracks i.cursors i.keys i.first c.in-Some.track c.self.invariant c.in-Some.ensures.some.0 c.in-Some.ensures.some.1 in
    in_table i.tracks i.cursors i.keys i.first c.in-Some.track c.self.invariant (found_in i.tracks i.cursors i.keys i.first c.in-Some.track c.self.invariant f)

pub set-self-inside-requires : goal.set-self-inside-requires
set-self-inside-requires c =
    let i = c.self.inside in
    let f = merge_found i.tracks i.cursors i.keys i.first c.in-Some.track c.self.invariant c.in-Some.ensures.some.0 c.in-Some.ensures.some.1 in
    in_keys i.tracks i.cursors i.keys i.first c.in-Some.track c.self.invariant (found_in i.tracks i.cursors i.keys i.first c.in-Some.track c.self.invariant f)

pub invariant_of-self : goal.invariant_of-self
invariant_of-self c =
    let i = c.self.inside in
    let t = c.in-Some.track in
    let f = merge_found i.tracks i.cursors i.keys i.first t c.self.invariant c.in-Some.ensures.some.0 c.in-Some.ensures.some.1 in
    let e = c.take_next-event.ensures in
    let tail = get_or (map remaining c.take_next-event.new.cursors) t [] in
    let s : Stepped t i.cursors c.take_next-event.new.cursors c.take_next-event.result.0 tail = record { some = e.some; none = e.none; others = e.others; all = e.all; size = c.take_next-event.auto.cursors } in
    merge_next i.tracks t i.first c.take_next-event.result.1 c.set-self-inside.result i.cursors c.take_next-event.new.cursors i.keys c.set-self-inside.new.self c.take_next-event.result.0 tail
    c.self.invariant f s e.key c.set-self-inside.ensures.set c.set-self-inside.ensures.least c.set-self-inside.ensures.among

pub returns-in-Some-clause-some : goal.returns-in-Some-clause-some
returns-in-Some-clause-some c =
    let i = c.self.inside in
    let t = c.in-Some.track in
    let f = merge_found i.tracks i.cursors i.keys i.first t c.self.invariant c.in-Some.ensures.some.0 c.in-Some.ensures.some.1 in
    let e = c.take_next-event.ensures in
    let tail = get_or (map remaining c.take_next-event.new.cursors) t [] in
    let s : Stepped t i.cursors c.take_next-event.new.cursors c.take_next-event.result.0 tail = record { some = e.some; none = e.none; others = e.others; all = e.all; size = c.take_next-event.auto.cursors } in
    some_at c.take_next-event.result.0 _ _ _ _ (rest_next c.merged_order.ensures.first i.tracks t i.first i.cursors c.take_next-event.new.cursors i.keys c.take_next-event.result.0 tail c.self.invariant f s) (ap (λ v. v.rest) (sym c.self.view_is)) refl

pub returns-in-Some-clause-none : goal.returns-in-Some-clause-none
returns-in-Some-clause-none c =
    let i = c.self.inside in
    let t = c.in-Some.track in
    let f = merge_found i.tracks i.cursors i.keys i.first t c.self.invariant c.in-Some.ensures.some.0 c.in-Some.ensures.some.1 in
    let e = c.take_next-event.ensures in
    let tail = get_or (map remaining c.take_next-event.new.cursors) t [] in
    let s : Stepped t i.cursors c.take_next-event.new.cursors c.take_next-event.result.0 tail = record { some = e.some; none = e.none; others = e.others; all = e.all; size = c.take_next-event.auto.cursors } in
    never_none _ i.tracks t i.first i.cursors c.take_next-event.new.cursors i.keys c.take_next-event.result.0 tail c.self.invariant f s
