use Rattle.std.proofs.Common.{◌≡◌, ◌<◌, ◌∙◌, ◌++◌, ◌∷◌, [], ◌+◌, ℕ, suc, List, true, None, length, take, drop, refl, sym, ap, subst, arith}
use Rattle.std.specs.List.{AllByRecursion}
use Rattle.std.proofs.lemmas.List.{take-append-drop}
use Rattle.mt_base.specs.Midi.{view, MidiEvent}
use Rattle.mt_base.specs.Valid.{IsValidEvent}
use Rattle.midi_model.specs.Order.{AreInOrder}
use Rattle.retune_model.specs.Options.{Options, bends_notes}
use Rattle.retune_model.specs.Ports.{of_port, is_reset_at}
use Rattle.retune_model.specs.SourceFaults.{IsFaultless, IsSound, fault_at}
use Rattle.plan_laws.specs.Counting.{ComesAt}
use Rattle.lifetimes.specs.Stands.{Stands, asked, table_in, tick_of}
use Rattle.lifetimes.specs.Told.{TellsChange, begun_by, count_begun, port_on}
use Rattle.channel_plan.proofs.Surveyed.{next_rest, next_comes, is_last}
use Rattle.channel_plan.proofs.Goes.{not_faulty, not_told}
use Rattle.channel_plan.proofs.Beginning.{begun_is_part}
use Rattle.least_replay.specs.Found.{Goes, GoesKept, AreFound, resets_on}
use Rattle.least_replay.specs.FoundView.{all_seen, slots_of, IsGoing, AreGoing}
use Rattle.least_replay.specs.Serving.{channel_at}
use Rattle.least_replay.proofs.Costing.{resets_few}
use Rattle.least_replay.proofs.Facts.{none_first}
use Rattle.least_replay.proofs.Steps.{first}
use Rattle.least_replay.proofs.finding.find_runs.Goals as goal

pub events-init : goal.events-init
events-init g c =
    let o = asked c.args.parts.now in
    let table = g.T.Aims.table (table_in c.args.parts.now) in
    let es = g.S.EventStream.all c.args.stream.now in
    let channels = channel_at o es c.args.plan.now in
    let z = c.args.port in
    let is : g.S.EventStream.rest c.rewind.new.self ≡ es = c.rewind.ensures.rest in
    let sound : IsSound o table es = record {
      bends = ap bends_notes c.requires.bends;
      in_order = c.requires.asked.order;
      faultless = c.requires.faultless;
    } in
    record {
      all = c.rewind.ensures.all;
      table = refl;
      options = refl;
      at = c.requires.start.position;
      low = omega arith;
      rest = is;
      order = subst (λ (t : ℕ). AreInOrder t (g.S.EventStream.rest c.rewind.new.self)) (sym c.requires.start.tick)
          (subst (λ (l : List MidiEvent). AreInOrder 0 l) (sym is) c.requires.asked.order);
      valid = subst (λ (l : List MidiEvent). AllByRecursion IsValidEvent l) (sym is) c.requires.asked.valid;
      tracks = subst (λ (l : List MidiEvent). AllByRecursion (λ e. e.track < 1024) l) (sym is) c.requires.asked.tracks;
      stands = c.requires.start;
      resets = refl;
      going = subst (λ xs. AllByRecursion (IsGoing o (length c.new.result.items)) xs) (sym c.new-2.ensures.items) tt;
      goes = subst (λ rs. Goes o table es channels z 0 (all_seen rs) (slots_of c.new-2.result.items)) (sym c.new.ensures.items)
          (subst (λ xs. Goes o table es channels z 0 [] (slots_of xs)) (sym c.new-2.ensures.items)
          (first o table es channels z (none_first c.rests_are_runs.ensures.one_begins c.sound_sources.ensures.aimed o table es z sound)));
    }

pub keep-requires : goal.keep-requires
keep-requires g c = record {
  bends = ap (λ (x : Options). x.route) c.events.invariant.options ∙ c.requires.bends;
  going = c.events.invariant.going;
}

pub unreachable-requires : goal.unreachable-requires
unreachable-requires g c =
    let o = asked c.args.parts.now in
    let table = g.T.Aims.table (table_in c.args.parts.now) in
    let es = g.S.EventStream.all c.args.stream.now in
    let e = view c.in-Some.event in
    let i = c.events.invariant in
    let k = c.events.position in
    let front = take k es in
    let comes : ComesAt es k e = next_comes es (g.S.EventStream.rest c.next.new.self) k e (sym i.rest ∙ c.in-Some.ensures.some) in
    let whole : es ≡ front ++ e ∷ drop (suc k) es = sym (take-append-drop k es) ∙ ap (λ l. front ++ l) comes in
    let none : fault_at o table (front ++ e ∷ []) (length front) ≡ None =
    not_faulty c.front_faults.ensures.faultless o table es front e (drop (suc k) es) whole c.requires.faultless in
    not_told c.in-Err-Source.field-0 c.in-Err-Source.field-0-0 c.in-Err-Source.field-0-is
    (c.in-Err-Source.ensures.fault front i.stands
    ∙ ap (λ (x : Options). fault_at x (g.T.Aims.table (table_in c.events.parts)) (front ++ e ∷ []) (length front)) i.options
    ∙ ap (λ t. fault_at o (g.T.Aims.table t) (front ++ e ∷ []) (length front)) i.table
    ∙ none)

pub take-requires-clause-bends : goal.take-requires-clause-bends
take-requires-clause-bends g c =
    ap (λ (x : Options). x.route) (c.in-Ok.ensures.options ∙ c.events.invariant.options) ∙ c.requires.bends

pub take-requires-clause-part : goal.take-requires-clause-part
take-requires-clause-part g c =
    let es = g.S.EventStream.all c.args.stream.now in
    let e = view c.in-Some.event in
    let i = c.events.invariant in
    let tells = c.in-Ok.ensures.change (take c.events.position es) i.stands in
    let valid = subst (λ (l : List MidiEvent). AllByRecursion IsValidEvent l) c.in-Some.ensures.some i.valid in
    begun_is_part (asked c.step.new.self) (g.T.Aims.table (table_in c.events.parts)) _ _ e.tick e.what c.in-Ok.change.begun valid.0.what
    (subst (λ (x : Options). c.in-Ok.change.begun ≡ begun_by x (g.T.Aims.table (table_in c.events.parts)) (port_on (take c.events.position es) e)
    (suc (count_begun x (take c.events.position es))) e.tick e.what) (sym c.in-Ok.ensures.options) tells.begun)

pub take-requires-clause-going : goal.take-requires-clause-going
take-requires-clause-going g c =
    subst (λ (x : Options). AreGoing x c.keep.new.self) (sym c.in-Ok.ensures.options) c.keep.ensures.going

pub take-requires-clause-few : goal.take-requires-clause-few
take-requires-clause-few g c =
    let es = g.S.EventStream.all c.args.stream.now in
    let i = c.events.invariant in
    let few = c.requires.asked.few in
    let low = i.low in
    let some = resets_few (is_reset_at (of_port c.args.port es)) c.events.position in
    let same = c.keep.ensures.resets ∙ i.resets in
    omega (arith, few, low, some, same)

pub events-preserved : goal.events-preserved
events-preserved g c =
    let o = asked c.args.parts.now in
    let es = g.S.EventStream.all c.args.stream.now in
    let e = view c.in-Some.event in
    let i = c.events.invariant in
    let z = c.args.port in
    let some = c.in-Some.ensures.some in
    let more = g.S.EventStream.rest c.next.new.self in
    let k = c.events.position in
    let one : suc k ≡ k + 1 = omega arith in
    let comes : ComesAt es k e = next_comes es more k e (sym i.rest ∙ some) in
    let tables = c.in-Ok.ensures.table ∙ i.table in
    let options = c.in-Ok.ensures.options ∙ i.options in
    let front : take k es ++ e ∷ [] ≡ take (suc k) es = sym (c.taken_laws.ensures.next es k e comes).0 in
    let order = subst (λ (l : List MidiEvent). AreInOrder (tick_of c.events.parts) l) some i.order in
    let valid = subst (λ (l : List MidiEvent). AllByRecursion IsValidEvent l) some i.valid in
    let long : k < length es = (c.taken_laws.ensures.next es k e comes).2 in
    let new = c.step.new.self in
    let table = g.T.Aims.table (table_in new) in
    let channels = channel_at (asked new) es c.args.plan.now in
    let stands : Stands table new (take (suc k) es) =
    subst (Stands table new) front (c.in-Ok.ensures.stands (take k es) i.stands) in
    let tells : TellsChange (asked new) table (take k es) e c.in-Ok.change =
    subst (λ t. TellsChange (asked new) (g.T.Aims.table t) (take k es) e c.in-Ok.change) (sym c.in-Ok.ensures.table)
    (subst (λ (x : Options). TellsChange x (g.T.Aims.table (table_in c.events.parts)) (take k es) e c.in-Ok.change)
    (sym c.in-Ok.ensures.options)
    (c.in-Ok.ensures.change (take k es) i.stands)) in
    let bends : bends_notes (asked new).route ≡ true =
    ap (λ (x : Options). bends_notes x.route) options ∙ ap bends_notes c.requires.bends in
    let faultless : IsFaultless (asked new) table es =
    subst (λ t. IsFaultless (asked new) (g.T.Aims.table t) es) (sym tables) (subst (λ (x : Options). IsFaultless x
    (g.T.Aims.table (table_in c.args.parts.now)) es) (sym options) c.requires.faultless) in
    let sound : IsSound (asked new) table es = record { bends = bends; in_order = c.requires.asked.order; faultless = faultless } in
    let old : IsSound (asked c.events.parts) (g.T.Aims.table (table_in c.events.parts)) es = record {
      bends = ap (λ (x : Options). bends_notes x.route) i.options ∙ ap bends_notes c.requires.bends;
      in_order = c.requires.asked.order;
      faultless = subst (λ t. IsFaultless (asked c.events.parts) (g.T.Aims.table t) es) (sym i.table) (subst (λ (x : Options). IsFaultless x
          (g.T.Aims.table (table_in c.args.parts.now)) es) (sym i.options) c.requires.faultless);
    } in
    let kept = c.keep.ensures.kept es (channel_at (asked c.events.parts) es c.args.plan.now) z k old i.low i.stands i.goes in
    let kept' : GoesKept (asked new) table es channels z k (all_seen c.keep.new.self.runs.items) (slots_of c.keep.new.self.going.items) =
    subst (λ t. GoesKept (asked new) (g.T.Aims.table t) es channels z k (all_seen c.keep.new.self.runs.items) (slots_of c.keep.new.self.going.items))
    (sym c.in-Ok.ensures.table)
    (subst (λ (x : Options). GoesKept x (g.T.Aims.table (table_in c.events.parts)) es (channel_at x es c.args.plan.now) z k
    (all_seen c.keep.new.self.runs.items) (slots_of c.keep.new.self.going.items)) (sym c.in-Ok.ensures.options) kept) in
    let at : k + 1 ≡ suc k = omega arith in
    let resets = c.keep.ensures.resets ∙ i.resets in
    record {
      all = c.in-Some.ensures.all ∙ i.all;
      table = tables;
      options = options;
      at = c.in-Ok.ensures.position;
      low = omega (arith, long);
      rest = next_rest es more k e (sym i.rest ∙ some) ∙ ap (λ j. drop j es) one;
      order = subst (λ (t : ℕ). AreInOrder t more) (sym c.in-Ok.ensures.tick) order.1;
      valid = valid.1;
      tracks = (subst (λ (l : List MidiEvent). AllByRecursion (λ x. x.track < 1024) l) some i.tracks).1;
      stands = subst (λ j. Stands table new (take j es)) one stands;
      resets = c.in_ok-take.ensures.resets es k e comes refl tells resets ∙ ap (resets_on es z) one;
      going = c.in_ok-take.ensures.going;
      goes = subst (λ j. Goes (asked new) table es channels z j (all_seen c.take.new.self.runs.items) (slots_of c.take.new.self.going.items)) one
          (c.in_ok-take.ensures.goes es k e sound at comes refl stands tells resets kept');
    }

pub returns-clause-found : goal.returns-clause-found
returns-clause-found g c =
    let o = asked c.args.parts.now in
    let table = g.T.Aims.table (table_in c.args.parts.now) in
    let es = g.S.EventStream.all c.args.stream.now in
    let z = c.args.port in
    let i = c.events.invariant in
    let none : drop c.events.position es ≡ [] = sym i.rest ∙ c.in_default.ensures.none.0 in
    let rs = all_seen c.events.found.runs.items in
    subst (λ t. AreFound o (g.T.Aims.table t) es (channel_at o es c.args.plan.now) z (length es) (length es) rs) i.table
    (subst (λ (x : Options). AreFound x (g.T.Aims.table (table_in c.events.parts)) es (channel_at x es c.args.plan.now) z (length es) (length es) rs)
    i.options
    (subst (λ k. AreFound (asked c.events.parts) (g.T.Aims.table (table_in c.events.parts)) es
    (channel_at (asked c.events.parts) es c.args.plan.now) z k k rs) (is_last es c.events.position none i.low) i.goes.runs))
