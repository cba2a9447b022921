use Rattle.std.proofs.Common.{◌≡◌, ◌∙◌, suc, List, true, take, nat_eq, sym, ap, subst}
use Rattle.std.specs.List.{AllByRecursion}
use Rattle.std.specs.Vec.{with_items}
use Rattle.std.proofs.lemmas.List.{with_items_is}
use Rattle.std.proofs.lemmas.Bool.{both_ways}
use Rattle.mt_base.specs.Midi.{view_what}
use Rattle.midi_model.specs.Sysex.{doing}
use Rattle.retune_model.specs.Ports.{resets, events_on}
use Rattle.retune_model.specs.Dump.{has_note_on}
use Rattle.retune_model.specs.Faults.{is_part}
use Rattle.lifetimes.specs.Views.{pair_of}
use Rattle.lifetimes.specs.Stands.{asked, table_in}
use Rattle.lifetimes.specs.Told.{port_on, count_begun}
use Rattle.channel_plan.specs.Serving.{Head, RowKept, RowFreed, ServesNote, heads}
use Rattle.channel_plan.proofs.Goes.{quiet, reset_is}
use Rattle.channel_plan.proofs.Beginning.{EventKit, begins_note_told, begins_nothing_told, begins_of, noted_at}
use Rattle.channel_plan.proofs.giving.Giving.take.Goals as goal

pub returns-in-Some-clause-goes : goal.returns-in-Some-clause-goes
returns-in-Some-clause-goes g c es k e order sound at comes valid what stands tells serves was =
    let o = asked c.args.parts.now in
    let table = g.T.Aims.table (table_in c.args.parts.now) in
    let gs = c.args.self.now.given.items in
    let kit : EventKit = record {
      taken = c.taken_laws.ensures.next;
      begun = c.counting_laws.ensures.begun;
      aimed = c.counting_laws.ensures.aimed;
      reset = c.event_laws.ensures.reset;
      events = c.event_laws.ensures.events;
    } in
    let n = suc (count_begun o (take k es)) in
    let b = c.in-Some.begun in
    let p = pair_of b.pair in
    let told = sym tells.begun ∙ c.in-Some.is in
    let begins = begins_note_told kit o table es k e comes n b
    (λ h. record { bends = h; in_order = stands.order; faultless = stands.faultless }) told in
    let note = begins_of o table (port_on (take k es) e) n e.tick e.what b valid.what told in
    let reset : c.resets.result ≡ resets (doing e.what) = c.resets.ensures ∙ reset_is (view_what c.args.what.now)
    ∙ ap (λ w. resets (doing w)) (sym what) in
    let is = with_items_is c.args.self.now.rows c.free_rows.new.rows (c.free_rows.auto.rows ∙ c.as_mut_slice.ensures.len) in
    let freed = subst (AllByRecursion (RowFreed o table es gs k)) (sym is) (c.free_rows.ensures.rows es gs k e at comes stands
    tells.ended tells.port reset
    (subst (AllByRecursion (RowKept o table es gs k)) (sym c.as_mut_slice.ensures.value) was.rows)) in
    let noted : has_note_on (λ d. nat_eq d p.part.channel) (events_on p.part.port es) ≡ true =
    ap (λ z. has_note_on (λ d. nat_eq d p.part.channel) (events_on z es)) begins.1
    ∙ noted_at kit c.front_laws.ensures.events (λ d. nat_eq d p.part.channel) es k e comes note.1 in
    let any : has_note_on (is_part o) (events_on p.part.port es) ≡ true =
    ap (λ z. has_note_on (is_part o) (events_on z es)) begins.1 ∙ noted_at kit c.front_laws.ensures.events (is_part o) es k e comes note.0 in
    let one : ServesNote o p c.args.ports.now (heads (with_items c.args.self.now.rows c.free_rows.new.rows).items) = subst (λ
    (hs : List Head). ServesNote o p c.args.ports.now hs) (sym (ap heads is ∙ c.free_rows.ensures.heads
    ∙ ap heads c.as_mut_slice.ensures.value)) (record {
      apart = serves.apart;
      served = λ h. serves.served h p.part.port p.part.channel note.2 begins.0.part noted;
      planned = λ none. both_ways (has_note_on (is_part o) (events_on p.part.port es)) (serves.planned p.part.port none) any;
    }) in
    c.begin.ensures.goes es k e order sound stands begins.0 one (record { rows = freed; notes = was.notes })

pub returns-in-None-clause-goes : goal.returns-in-None-clause-goes
returns-in-None-clause-goes g c es k e order sound at comes valid what stands tells serves was =
    let o = asked c.args.parts.now in
    let table = g.T.Aims.table (table_in c.args.parts.now) in
    let gs = c.args.self.now.given.items in
    let kit : EventKit = record {
      taken = c.taken_laws.ensures.next;
      begun = c.counting_laws.ensures.begun;
      aimed = c.counting_laws.ensures.aimed;
      reset = c.event_laws.ensures.reset;
      events = c.event_laws.ensures.events;
    } in
    let n = suc (count_begun o (take k es)) in
    let nothing = begins_nothing_told kit o table es k e comes n (sym tells.begun ∙ c.in-None.is) in
    let reset : c.resets.result ≡ resets (doing e.what) = c.resets.ensures ∙ reset_is (view_what c.args.what.now)
    ∙ ap (λ w. resets (doing w)) (sym what) in
    let is = with_items_is c.args.self.now.rows c.free_rows.new.rows (c.free_rows.auto.rows ∙ c.as_mut_slice.ensures.len) in
    let freed = subst (AllByRecursion (RowFreed o table es gs k)) (sym is) (c.free_rows.ensures.rows es gs k e at comes stands
    tells.ended tells.port reset
    (subst (AllByRecursion (RowKept o table es gs k)) (sym c.as_mut_slice.ensures.value) was.rows)) in
    quiet o table es k c.run_counts.ensures.none sound nothing c.args.ports.now _ (record { rows = freed; notes = was.notes })
