use Rattle.std.proofs.Common.{◌≡◌, ◌<◌, ◌∙◌, ◌++◌, ◌∷◌, [], ◌+◌, ℕ, suc, List, true, None, length, map, take, drop, refl, sym, ap, subst, arith}
use Rattle.std.specs.List.{AllByRecursion}
use Rattle.std.specs.Vec.{with_items}
use Rattle.std.proofs.lemmas.List.{with_items_is, take-append-drop}
use Rattle.mt_base.specs.Midi.{view, MidiEvent}
use Rattle.mt_base.specs.Valid.{IsValidEvent}
use Rattle.midi_model.specs.Order.{AreInOrder}
use Rattle.retune_model.specs.Options.{Options, bends_notes}
use Rattle.retune_model.specs.SourceFaults.{IsFaultless, IsSound, fault_at}
use Rattle.plan_laws.specs.Counting.{ComesAt}
use Rattle.lifetimes.specs.Stands.{Stands, asked, table_in, tick_of}
use Rattle.lifetimes.specs.Told.{TellsChange}
use Rattle.channel_plan.specs.Layouts.{allows}
use Rattle.channel_plan.specs.Serving.{heads, RowStands, RowKept, NotesGiven}
use Rattle.channel_plan.specs.Giving.{AreHeads, Goes, GoesKept, ServesAll, without_runs}
use Rattle.channel_plan.specs.declared.plan.Given.{Given}
use Rattle.channel_plan.specs.declared.plan.PortPlan.{PortPlan}
use Rattle.channel_plan.specs.declared.rowing.Used.{Used}
use Rattle.channel_plan.proofs.Surveyed.{next_rest, next_comes, is_last}
use Rattle.channel_plan.proofs.Goes.{bends_of, first_notes, few_runs, not_faulty, not_told, served_all, none_still}
use Rattle.channel_plan.proofs.Ending.{EndLaws, ending}
use Rattle.channel_plan.proofs.giving.give.Goals as goal

pub events-init : goal.events-init
events-init g c =
    let o = asked c.args.parts.now in
    let table = g.T.Aims.table (table_in c.args.parts.now) in
    let es = g.S.EventStream.all c.args.stream.now in
    let is : g.S.EventStream.rest c.rewind.new.self ≡ es = c.rewind.ensures.rest in
    let rows = c.in-Ok.ensures.rows o table es c.requires.layout c.requires.asked c.requires.faultless c.requires.planned in
    record {
      all = c.rewind.ensures.all;
      table = refl;
      options = refl;
      at = c.requires.start.position;
      low = omega arith;
      rest = is;
      order = subst (λ (t : ℕ). AreInOrder t (g.S.EventStream.rest c.rewind.new.self)) (sym c.requires.start.tick)
          (subst (λ (l : List MidiEvent). AreInOrder 0 l) (sym is) c.requires.asked.order);
      valid = subst (λ (l : List MidiEvent). AllByRecursion IsValidEvent l) (sym is) c.requires.asked.valid;
      tracks = subst (λ (l : List MidiEvent). AllByRecursion (λ e. e.track < 1024) l) (sym is) c.requires.asked.tracks;
      stands = c.requires.start;
      ports = refl;
      heads = rows.heads;
      goes = record {
        rows = subst (λ (gs : List Given). AllByRecursion (RowStands o table es gs 0) c.in-Ok.rows.items) (sym c.new.ensures.items) rows.stand;
        notes = subst (λ (gs : List Given). NotesGiven o table es 0 c.args.ports.now gs c.new-2.result.items) (sym c.new.ensures.items)
            (subst (λ (rs : List ℕ). NotesGiven o table es 0 c.args.ports.now [] rs) (sym c.new-2.ensures.items)
            (first_notes c.event_laws.ensures.begun o (allows c.args.layout) table es c.args.ports.now c.requires.planned));
      };
    }

pub keep_rows-requires : goal.keep_rows-requires
keep_rows-requires g c = record {
  bends = λ l.
      let i = c.events.invariant in
      let es = g.S.EventStream.all c.args.stream.now in
      let is = c.as_mut_slice.ensures.value in
      ap (λ (x : Options). bends_notes x.route) i.options
      ∙ bends_of (asked c.args.parts.now) (allows c.args.layout) (g.T.Aims.table (table_in c.args.parts.now)) es c.events.giving.rows.items i.heads
      (subst (λ (us : List Used). 0 < length us) is l);
}

pub unreachable-requires : goal.unreachable-requires
unreachable-requires g c =
    let o = asked c.args.parts.now in
    let table = g.T.Aims.table (table_in c.args.parts.now) in
    let es = g.S.EventStream.all c.args.stream.now in
    let e = view c.in-Some.event in
    let i = c.events.invariant in
    let k = c.events.position in
    let front = take k es in
    let comes : ComesAt es k e = next_comes es (g.S.EventStream.rest c.next.new.self) k e (sym i.rest ∙ c.in-Some.ensures.some) in
    let whole : es ≡ front ++ e ∷ drop (suc k) es = sym (take-append-drop k es) ∙ ap (λ l. front ++ l) comes in
    let none : fault_at o table (front ++ e ∷ []) (length front) ≡ None =
    not_faulty c.front_faults.ensures.faultless o table es front e (drop (suc k) es) whole c.requires.faultless in
    not_told c.in-Err-Source.field-0 c.in-Err-Source.field-0-0 c.in-Err-Source.field-0-is
    (c.in-Err-Source.ensures.fault front i.stands
    ∙ ap (λ (x : Options). fault_at x (g.T.Aims.table (table_in c.events.parts)) (front ++ e ∷ []) (length front)) i.options
    ∙ ap (λ t. fault_at o (g.T.Aims.table t) (front ++ e ∷ []) (length front)) i.table
    ∙ none)

pub take-requires-clause-bends : goal.take-requires-clause-bends
take-requires-clause-bends g c l =
    let i = c.events.invariant in
    let es = g.S.EventStream.all c.args.stream.now in
    let long = c.keep_rows.auto.rows ∙ c.as_mut_slice.ensures.len in
    let is = with_items_is c.events.giving.rows c.keep_rows.new.rows long in
    let then = ap heads is ∙ c.keep_rows.ensures.heads ∙ ap heads c.as_mut_slice.ensures.value in
    ap (λ (x : Options). bends_notes x.route) (c.in-Ok-step.ensures.options ∙ i.options)
    ∙ bends_of (asked c.args.parts.now) (allows c.args.layout) (g.T.Aims.table (table_in c.args.parts.now)) es
    (with_items c.events.giving.rows c.keep_rows.new.rows).items
    (subst (AreHeads (asked c.args.parts.now) (allows c.args.layout) (g.T.Aims.table (table_in c.args.parts.now)) es) (sym then) i.heads) l

pub take-requires-clause-few : goal.take-requires-clause-few
take-requires-clause-few g c =
    let i = c.events.invariant in
    let few = c.requires.asked.few in
    let low = i.low in
    few_runs c.events.position c.events.ports (omega (arith, low, few)) i.goes.notes.few

pub events-preserved : goal.events-preserved
events-preserved g c =
    let o = asked c.args.parts.now in
    let T = table_in c.args.parts.now in
    let table = g.T.Aims.table T in
    let es = g.S.EventStream.all c.args.stream.now in
    let e = view c.in-Some.event in
    let i = c.events.invariant in
    let some = c.in-Some.ensures.some in
    let more = g.S.EventStream.rest c.next.new.self in
    let k = c.events.position in
    let one : suc k ≡ k + 1 = omega arith in
    let comes : ComesAt es k e = next_comes es more k e (sym i.rest ∙ some) in
    let tables = c.in-Ok-step.ensures.table ∙ i.table in
    let options = c.in-Ok-step.ensures.options ∙ i.options in
    let front : take k es ++ e ∷ [] ≡ take (suc k) es = sym (c.taken_laws.ensures.next es k e comes).0 in
    let order = subst (λ (l : List MidiEvent). AreInOrder (tick_of c.events.parts) l) some i.order in
    let valid = subst (λ (l : List MidiEvent). AllByRecursion IsValidEvent l) some i.valid in
    let long : k < length es = (c.taken_laws.ensures.next es k e comes).2 in
    let new = c.step.new.self in
    let before : Stands table c.events.parts (take k es) = subst (λ t. Stands (g.T.Aims.table t) c.events.parts (take k es)) i.table i.stands in
    let stands : Stands (g.T.Aims.table (table_in new)) new (take (suc k) es) =
    subst (Stands (g.T.Aims.table (table_in new)) new) front (c.in-Ok-step.ensures.stands (take k es) i.stands) in
    let tells : TellsChange (asked new) (g.T.Aims.table (table_in new)) (take k es) e c.in-Ok-step.change =
    subst (λ t. TellsChange (asked new) (g.T.Aims.table t) (take k es) e c.in-Ok-step.change) (sym c.in-Ok-step.ensures.table)
    (subst (λ (x : Options). TellsChange x (g.T.Aims.table (table_in c.events.parts)) (take k es) e c.in-Ok-step.change)
    (sym c.in-Ok-step.ensures.options)
    (c.in-Ok-step.ensures.change (take k es) i.stands)) in
    let is = with_items_is c.events.giving.rows c.keep_rows.new.rows (c.keep_rows.auto.rows ∙ c.as_mut_slice.ensures.len) in
    let goes : Goes (asked c.events.parts) (g.T.Aims.table (table_in c.events.parts)) es k c.events.ports c.events.giving =
    subst (λ t. Goes (asked c.events.parts) (g.T.Aims.table t) es k c.events.ports c.events.giving) (sym i.table)
    (subst (λ (x : Options). Goes x table es k c.events.ports c.events.giving) (sym i.options) i.goes) in
    let rows : AllByRecursion (RowKept (asked c.events.parts) (g.T.Aims.table (table_in c.events.parts)) es c.events.giving.given.items k)
    (with_items c.events.giving.rows c.keep_rows.new.rows).items =
    subst (AllByRecursion (RowKept (asked c.events.parts) (g.T.Aims.table (table_in c.events.parts)) es c.events.giving.given.items k)) (sym is)
    (c.keep_rows.ensures.rows es c.events.giving.given.items k i.stands
    (subst (AllByRecursion (RowStands (asked c.events.parts) (g.T.Aims.table (table_in c.events.parts)) es c.events.giving.given.items k))
    (sym c.as_mut_slice.ensures.value) goes.rows)) in
    let kept = subst (λ t. GoesKept (asked new) (g.T.Aims.table t) es k c.events.ports
    (record { rows = with_items c.events.giving.rows c.keep_rows.new.rows; given = c.events.giving.given; runs = c.events.giving.runs }))
    (sym c.in-Ok-step.ensures.table)
    (subst (λ (x : Options). GoesKept x (g.T.Aims.table (table_in c.events.parts)) es k c.events.ports
    (record { rows = with_items c.events.giving.rows c.keep_rows.new.rows; given = c.events.giving.given; runs = c.events.giving.runs }))
    (sym c.in-Ok-step.ensures.options)
    (record { rows = rows; notes = goes.notes })) in
    let then = ap heads is ∙ c.keep_rows.ensures.heads ∙ ap heads c.as_mut_slice.ensures.value in
    let are = subst (AreHeads o (allows c.args.layout) table es) (sym then) i.heads in
    let serves : ServesAll (asked new) es c.events.ports (heads (with_items c.events.giving.rows c.keep_rows.new.rows).items) =
    subst (λ (x : Options). ServesAll x es c.events.ports (heads (with_items c.events.giving.rows c.keep_rows.new.rows).items)) (sym options)
    (served_all o (allows c.args.layout) table es c.args.ports.now c.events.ports (heads
    (with_items c.events.giving.rows c.keep_rows.new.rows).items) are c.requires.planned i.ports) in
    let at : k + 1 ≡ suc k = omega arith in
    let sound : bends_notes (asked new).route ≡ true → IsSound (asked new) (g.T.Aims.table (table_in new)) es = λ h. record {
      bends = h;
      in_order = c.requires.asked.order;
      faultless = subst (λ t. IsFaultless (asked new) (g.T.Aims.table t) es) (sym tables) (subst (λ (x : Options). IsFaultless x table es)
          (sym options) c.requires.faultless);
    } in
    let next : Goes (asked new) (g.T.Aims.table (table_in new)) es (suc k) c.take.new.ports c.take.new.self =
    c.in-Ok-take.ensures.goes es k e c.requires.asked.order sound at comes valid.0 refl stands tells serves kept in
    record {
      all = c.in-Some.ensures.all ∙ i.all;
      table = tables;
      options = options;
      at = c.in-Ok-step.ensures.position;
      low = omega (arith, long);
      rest = next_rest es more k e (sym i.rest ∙ some) ∙ ap (λ j. drop j es) one;
      order = subst (λ (t : ℕ). AreInOrder t more) (sym c.in-Ok-step.ensures.tick) order.1;
      valid = valid.1;
      tracks = (subst (λ (l : List MidiEvent). AllByRecursion (λ x. x.track < 1024) l) some i.tracks).1;
      stands = subst (λ j. Stands (g.T.Aims.table (table_in new)) new (take j es)) one stands;
      ports = c.take.ensures.ports ∙ i.ports;
      heads = subst (AreHeads o (allows c.args.layout) table es) (sym c.take.ensures.heads) are;
      goes = subst (λ j. Goes o table es j c.take.new.ports c.take.new.self) one
          (subst (λ t. Goes o (g.T.Aims.table t) es (suc k) c.take.new.ports c.take.new.self) tables
          (subst (λ (x : Options). Goes x (g.T.Aims.table (table_in new)) es (suc k) c.take.new.ports c.take.new.self) options next));
    }

pub returns-clause-gives : goal.returns-clause-gives
returns-clause-gives g c plan ports given runs =
    let o = asked c.args.parts.now in
    let table = g.T.Aims.table (table_in c.args.parts.now) in
    let es = g.S.EventStream.all c.args.stream.now in
    let i = c.events.invariant in
    let none : drop c.events.position es ≡ [] = sym i.rest ∙ c.in_default.ensures.none.0 in
    let goes = subst (λ k. Goes o table es k c.events.ports c.events.giving) (is_last es c.events.position none i.low) i.goes in
    let laws : EndLaws = record {
      counted = c.fewest_channels.ensures.counted;
      follows = c.event_laws.ensures.begun;
      unbegun =
          c.run_counts.ensures.unbegun;
      none = c.run_counts.ensures.none;
    } in
    ending laws o (allows c.args.layout) table es plan c.events.giving.rows.items c.requires.asked c.requires.faultless c.requires.planned.fits
    i.heads
    (subst (λ (gs : List Given). AllByRecursion (RowStands o table es gs (length es)) c.events.giving.rows.items) (sym given) goes.rows)
    (λ z silent. c.requires.planned.silent z (none_still c.args.ports.now plan.ports.items z (ap (map without_runs) ports ∙ i.ports) silent))
    (subst (λ (ps : List PortPlan). NotesGiven o table es (length es) ps plan.given.items plan.runs.items) (sym ports)
    (subst (λ (gs : List Given). NotesGiven o table es (length es) c.events.ports gs plan.runs.items) (sym given)
    (subst (λ (rs : List ℕ). NotesGiven o table es (length es) c.events.ports c.events.giving.given.items rs) (sym runs) goes.notes)))
