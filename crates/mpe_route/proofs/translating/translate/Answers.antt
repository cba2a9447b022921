use Rattle.std.proofs.Common.{◌≡◌, ◌<◌, ◌+◌, ◌∙◌, ◌++◌, ◌∷◌, [], ℕ, suc, List, None, length, take, drop, refl, sym, ap, subst, arith, rules}
use Rattle.std.specs.List.{AllByRecursion}
use Rattle.std.proofs.lemmas.List.{take-append-drop}
use Rattle.mt_base.specs.Midi.{view, MidiEvent}
use Rattle.mt_base.specs.Valid.{IsValidEvent}
use Rattle.midi_model.specs.Order.{AreInOrder}
use Rattle.retune_model.specs.Options.{Options, keeps_drums}
use Rattle.retune_model.specs.SourceFaults.{fault_at}
use Rattle.plan_laws.specs.Counting.{ComesAt}
use Rattle.lifetimes.specs.Stands.{Stands, asked, table_in, tick_of}
use Rattle.lifetimes.specs.Views.{options_of}
use Rattle.routes.specs.Putting.{IsPut}
use Rattle.channel_model.specs.Rows.{zones_on}
use Rattle.retune_model.specs.Ports.{events_on}
use Rattle.routes.proofs.Puts.{more_put, may_next, front_of, on_err}
use Rattle.channel_plan.proofs.Surveyed.{next_rest, next_comes}
use Rattle.channel_plan.proofs.Goes.{not_faulty, not_told}
use Rattle.mpe_route.specs.Planned.{zoned}
use Rattle.mpe_route.specs.Laws.{IsZonable}
use Rattle.mpe_route.proofs.Kit.{Kit}
use Rattle.mpe_route.specs.Caused.{either}
use Rattle.mpe_route.specs.Zones.{AreSmall}
use Rattle.mpe_route.proofs.PlannedZones.{zones_are, small}
use Rattle.mpe_route.proofs.Source.{is_mpe}
use Rattle.mpe_route.proofs.Passing.{Passing, begins, later, block_put, passes}
use Rattle.mpe_route.proofs.Turns.{IsTurn, told_turn, turn_put}
use Rattle.mpe_route.proofs.translating.translate.Goals as goal

pub events-init : goal.events-init
events-init g c =
    let o = asked c.args.parts.now in
    let table = g.T.Aims.table (table_in c.args.parts.now) in
    let es = g.S.EventStream.all c.args.stream.now in
    let plan = c.args.plan.now in
    let laws = c.passing_laws.ensures in
    let kit : Kit = record {
      age = laws.age;
      one = laws.one_note;
      laws = record { settle = laws.settled; fade = laws.fade; zones = laws.zones };
      facts = record {
        within = laws.within;
        sounding = laws.sounding;
        next = laws.next;
        one = laws.one_begins;
        reset = laws.reset;
        aimed = laws.aimed;
        fine = laws.fine;
        timed = laws.timed;
        parts = laws.parts;
        free = laws.free;
      };
      events = record { taken = laws.taken; begun = laws.of_event; aimed = laws.event_aimed; reset = laws.resets; events = laws.events };
      music = laws.music_taken;
      played = laws.music;
      begun = laws.begun;
      next = laws.event;
      serve = laws.serve;
      follows = laws.follows;
      source = laws.source;
      left = laws.left;
    } in
    let h : IsZonable o table es plan = record {
      route = c.requires.route;
      range = c.requires.range;
      valid = c.requires.asked.valid;
      in_order = c.requires.asked.order;
      planned = c.requires.plan;
    } in
    let is : g.S.EventStream.rest c.rewind.new.self ≡ es = c.rewind.ensures.rest in
    record {
      all = c.rewind.ensures.all;
      table = refl;
      options = refl;
      at = c.requires.start.position;
      low = omega arith;
      rest = is;
      order = subst (λ (t : ℕ). AreInOrder t (g.S.EventStream.rest c.rewind.new.self)) (sym c.requires.start.tick)
          (subst (λ (l : List MidiEvent). AreInOrder 0 l) (sym is) c.requires.asked.order);
      valid = subst (λ (l : List MidiEvent). AllByRecursion IsValidEvent l) (sym is) c.requires.asked.valid;
      tracks = subst (λ (l : List MidiEvent). AllByRecursion (λ e. e.track < 1024) l) (sym is) c.requires.asked.tracks;
      stands = c.requires.start;
      kit = kit;
      zonable = h;
      passing = begins kit o table es plan h c.new-kept.result (g.S.EventStream.rest c.rewind.new.self) c.args.out.now is c.new-kept.ensures.begun
          c.new-kept.ensures.bends;
    }

pub unreachable-requires : goal.unreachable-requires
unreachable-requires g c =
    let o = asked c.args.parts.now in
    let table = g.T.Aims.table (table_in c.args.parts.now) in
    let es = g.S.EventStream.all c.args.stream.now in
    let e = view c.in-Some.event in
    let i = c.events.invariant in
    let k = c.events.position in
    let front = take k es in
    let comes : ComesAt es k e = next_comes es (g.S.EventStream.rest c.next.new.self) k e (sym i.rest ∙ c.in-Some.ensures.some) in
    let whole : es ≡ front ++ e ∷ drop (suc k) es = sym (take-append-drop k es) ∙ ap (λ l. front ++ l) comes in
    let none : fault_at o table (front ++ e ∷ []) (length front) ≡ None =
    not_faulty c.passing_laws.ensures.faultless o table es front e (drop (suc k) es) whole c.requires.plan.taken.faultless in
    not_told c.in-Err-Source.field-0 c.in-Err-Source.field-0-0 c.in-Err-Source.field-0-is
    (c.in-Err-Source.ensures.fault front i.stands
    ∙ ap (λ (x : Options). fault_at x (g.T.Aims.table (table_in c.events.parts)) (front ++ e ∷ []) (length front)) i.options
    ∙ ap (λ t. fault_at o (g.T.Aims.table t) (front ++ e ∷ []) (length front)) i.table
    ∙ none)

pub pass_on-requires-clause-small : goal.pass_on-requires-clause-small
pass_on-requires-clause-small g c =
    let o = asked c.args.parts.now in
    let table = g.T.Aims.table (table_in c.args.parts.now) in
    let es = g.S.EventStream.all c.args.stream.now in
    let plan = c.args.plan.now in
    let laws = c.passing_laws.ensures in
    let h : IsZonable o table es plan = c.events.invariant.zonable in
    let z = c.in-Ok.change.port in
    subst AreSmall (sym (zones_are o h.planned.allowed table es plan z h.route h.planned.gives))
    (small o (keeps_drums o (events_on z es)) (zones_on o table es z) ((is_mpe laws.serve o table es plan h).ports z).allowed)

pub pass_on-requires-clause-may : goal.pass_on-requires-clause-may
pass_on-requires-clause-may g c =
    let o = asked c.args.parts.now in
    let table = g.T.Aims.table (table_in c.args.parts.now) in
    let es = g.S.EventStream.all c.args.stream.now in
    let plan = c.args.plan.now in
    let e = view c.in-Some.event in
    let i = c.events.invariant in
    let rest = g.S.EventStream.rest c.events.stream in
    let more = g.S.EventStream.rest c.next.new.self in
    let k = c.events.position in
    let front = take k es in
    let comes : ComesAt es k e = next_comes es more k e (sym i.rest ∙ c.in-Some.ensures.some) in
    let low : k < length es = (i.kit.events.taken es k e comes).2 in
    let z = c.in-Ok.change.port in
    let byte : z < 256 = search rules in
    let t : IsTurn o table plan front e z c.played_if-begun.result c.released-released.result =
    told_turn o (asked c.events.parts) table (g.T.Aims.table (table_in c.events.parts)) plan front e c.in-Ok.change _ _ i.options
    (ap (g.T.Aims.table) i.table) (c.in-Ok.ensures.change front i.stands) c.played_if-begun.ensures (c.released-released.ensures front i.stands) in
    let q = options_of c.options-options.result in
    let put = block_put q plan e z (either c.played_if-begun.result c.released-released.result) c.events.kept in
    let behind = later o table es plan (suc k) more in
    let next : IsPut c.args.out.now (zoned o table es plan) (put ++ behind) c.events.out =
    turn_put i.kit o q table es plan i.zonable k e rest more c.events.kept c.args.out.now c.events.out i.passing c.in-Some.ensures.some comes low
    c.options-options.ensures z byte _ _ t in
    may_next c.args.out.now (zoned o table es plan) put behind c.events.out c.requires.may next

pub events-preserved : goal.events-preserved
events-preserved g c =
    let o = asked c.args.parts.now in
    let table = g.T.Aims.table (table_in c.args.parts.now) in
    let es = g.S.EventStream.all c.args.stream.now in
    let plan = c.args.plan.now in
    let e = view c.in-Some.event in
    let i = c.events.invariant in
    let rest = g.S.EventStream.rest c.events.stream in
    let more = g.S.EventStream.rest c.next.new.self in
    let k = c.events.position in
    let front = take k es in
    let comes : ComesAt es k e = next_comes es more k e (sym i.rest ∙ c.in-Some.ensures.some) in
    let low : k < length es = (i.kit.events.taken es k e comes).2 in
    let z = c.in-Ok.change.port in
    let byte : z < 256 = search rules in
    let t : IsTurn o table plan front e z c.played_if-begun.result c.released-released.result =
    told_turn o (asked c.events.parts) table (g.T.Aims.table (table_in c.events.parts)) plan front e c.in-Ok.change _ _ i.options
    (ap (g.T.Aims.table) i.table) (c.in-Ok.ensures.change front i.stands) c.played_if-begun.ensures (c.released-released.ensures front i.stands) in
    let q = options_of c.options-options.result in
    let put = block_put q plan e z (either c.played_if-begun.result c.released-released.result) c.events.kept in
    let behind = later o table es plan (suc k) more in
    let next : IsPut c.args.out.now (zoned o table es plan) (put ++ behind) c.events.out =
    turn_put i.kit o q table es plan i.zonable k e rest more c.events.kept c.args.out.now c.events.out i.passing c.in-Some.ensures.some comes low
    c.options-options.ensures z byte _ _ t in
    let some = c.in-Some.ensures.some in
    let order = subst (λ (l : List MidiEvent). AreInOrder (tick_of c.events.parts) l) some i.order in
    let one : suc k ≡ k + 1 = omega arith in
    record {
      all = c.in-Some.ensures.all ∙ i.all;
      table = c.in-Ok.ensures.table ∙ i.table;
      options = c.in-Ok.ensures.options ∙ i.options;
      at = c.in-Ok.ensures.position;
      low = omega (arith, low);
      rest = next_rest es more k e (sym i.rest ∙ some) ∙ ap (λ (n : ℕ). drop n es) one;
      order = subst (λ (t : ℕ). AreInOrder t more) (sym c.in-Ok.ensures.tick) order.1;
      valid = (subst (λ (l : List MidiEvent). AllByRecursion IsValidEvent l) some i.valid).1;
      tracks = (subst (λ (l : List MidiEvent). AllByRecursion (λ x. x.track < 1024) l) some i.tracks).1;
      stands = subst (λ l. Stands (g.T.Aims.table (table_in c.step.new.self)) c.step.new.self l)
          (sym (i.kit.events.taken es k e comes).0 ∙ ap (λ (n : ℕ). take n es) one) (c.in-Ok.ensures.stands front i.stands);
      kit = i.kit;
      zonable = i.zonable;
      passing = subst (λ (n : ℕ). Passing o table es plan n more c.pass_on.new.kept c.args.out.now c.pass_on.new.out) one
          (passes i.kit o table es plan i.zonable k e rest more c.events.kept c.pass_on.new.kept c.args.out.now c.events.out c.pass_on.new.out z
          c.played_if-begun.result i.passing comes low byte t.here t.begun c.in_ok-pass_on.ensures.begun c.in_ok-pass_on.ensures.bends
          (more_put c.args.out.now (zoned o table es plan) put behind c.events.out c.pass_on.new.out next c.in_ok-pass_on.ensures.put));
    }

pub returns-in_err-pass_on-clause-front : goal.returns-in_err-pass_on-clause-front
returns-in_err-pass_on-clause-front g c =
    let o = asked c.args.parts.now in
    let table = g.T.Aims.table (table_in c.args.parts.now) in
    let es = g.S.EventStream.all c.args.stream.now in
    let plan = c.args.plan.now in
    let e = view c.in-Some.event in
    let i = c.events.invariant in
    let rest = g.S.EventStream.rest c.events.stream in
    let more = g.S.EventStream.rest c.next.new.self in
    let k = c.events.position in
    let front = take k es in
    let comes : ComesAt es k e = next_comes es more k e (sym i.rest ∙ c.in-Some.ensures.some) in
    let low : k < length es = (i.kit.events.taken es k e comes).2 in
    let z = c.in-Ok.change.port in
    let byte : z < 256 = search rules in
    let t : IsTurn o table plan front e z c.played_if-begun.result c.released-released.result =
    told_turn o (asked c.events.parts) table (g.T.Aims.table (table_in c.events.parts)) plan front e c.in-Ok.change _ _ i.options
    (ap (g.T.Aims.table) i.table) (c.in-Ok.ensures.change front i.stands) c.played_if-begun.ensures (c.released-released.ensures front i.stands) in
    let q = options_of c.options-options.result in
    let put = block_put q plan e z (either c.played_if-begun.result c.released-released.result) c.events.kept in
    let behind = later o table es plan (suc k) more in
    let next : IsPut c.args.out.now (zoned o table es plan) (put ++ behind) c.events.out =
    turn_put i.kit o q table es plan i.zonable k e rest more c.events.kept c.args.out.now c.events.out i.passing c.in-Some.ensures.some comes low
    c.options-options.ensures z byte _ _ t in
    on_err _ c.from_residual.result
    (front_of c.args.out.now (zoned o table es plan) put behind c.events.out c.pass_on.new.out next c.in_err-pass_on.ensures.front)
