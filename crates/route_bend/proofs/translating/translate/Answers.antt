use Rattle.std.proofs.Common.{◌≡◌, ◌<◌, ◌∙◌, ◌++◌, ◌∷◌, [], ◌+◌, ℕ, suc, List, Bool, None, length, take, drop, refl, sym, ap, subst, arith}
use Rattle.std.specs.List.{AllByRecursion}
use Rattle.std.proofs.lemmas.List.{take-append-drop}
use Rattle.mt_base.specs.Midi.{view, MidiEvent}
use Rattle.mt_base.specs.Valid.{IsValidEvent}
use Rattle.midi_model.specs.Order.{AreInOrder}
use Rattle.retune_model.specs.Options.{Options, bends_notes}
use Rattle.retune_model.specs.Faults.{Targets}
use Rattle.retune_model.specs.SourceFaults.{fault_at}
use Rattle.plan_laws.specs.Counting.{ComesAt}
use Rattle.lifetimes.specs.Stands.{Stands, asked, table_in, tick_of}
use Rattle.lifetimes.specs.Told.{TellsChange}
use Rattle.lifetimes.specs.Views.{options_of}
use Rattle.channel_plan.specs.Planned.{IsPlan}
use Rattle.channel_plan.specs.declared.plan.Plan.{Plan}
use Rattle.channel_plan.proofs.Surveyed.{next_rest, next_comes}
use Rattle.channel_plan.proofs.Goes.{not_faulty, not_told}
use Rattle.routes.specs.Putting.{AllMayPut, put_all, IsFront}
use Rattle.routes.proofs.Puts.{on_err}
use Rattle.route_bend.specs.Putting.{block_events}
use Rattle.route_bend.specs.Standing.{IsBending}
use Rattle.route_bend.specs.Preparing.{IsTaken}
use Rattle.route_bend.specs.declared.bending.Bending.{Bending}
use Rattle.route_bend.proofs.Bents.{is_bending}
use Rattle.route_bend.proofs.Going.{Going, at_start, moved, turned, stops, may, goes_on, fronts, ends}
use Rattle.route_bend.proofs.translating.translate.Given.{Over}
use Rattle.route_bend.proofs.translating.translate.Goals.{After-as_slice}
use Rattle.route_bend.proofs.translating.translate.Goals as goal

pub events-init : goal.events-init
events-init g c =
    let o = asked c.args.parts.now in
    let table = g.T.Aims.table (table_in c.args.parts.now) in
    let es = g.S.EventStream.all c.args.stream.now in
    let is : g.S.EventStream.rest c.rewind.new.self ≡ es = c.rewind.ensures.rest in
    let high = c.args.parts.now.source.range_high in
    record {
      all = c.rewind.ensures.all;
      table = refl;
      options = refl;
      at = c.requires.start.position;
      low = omega arith;
      rest = is;
      order = subst (λ (t : ℕ). AreInOrder t (g.S.EventStream.rest c.rewind.new.self)) (sym c.requires.start.tick)
          (subst (λ (l : List MidiEvent). AreInOrder 0 l) (sym is) c.requires.order);
      valid = subst (λ (l : List MidiEvent). AllByRecursion IsValidEvent l) (sym is) c.requires.valid;
      tracks = subst (λ (l : List MidiEvent). AllByRecursion (λ e. e.track < 1024) l) (sym is) c.requires.tracks;
      stands = c.requires.start;
      going = λ allowed planned. at_start c.turning.ensures.start o allowed table es c.args.plan.now
          (is_bending o allowed table es c.args.plan.now (record {
            route = c.requires.route;
            range = omega (arith, high);
            valid = c.requires.valid;
            in_order = c.requires.order;
            faultless = c.requires.faultless;
            planned = planned;
          })) c.new-bending.result.ports.items c.args.out.now c.new-bending.ensures;
    }

pub prepare-requires-clause-bends : goal.prepare-requires-clause-bends
prepare-requires-clause-bends g c = ap (λ (x : Options). bends_notes x.route) c.events.invariant.options ∙ ap bends_notes c.requires.route

pub unreachable-requires : goal.unreachable-requires
unreachable-requires g c =
    let o = asked c.args.parts.now in
    let table = g.T.Aims.table (table_in c.args.parts.now) in
    let es = g.S.EventStream.all c.args.stream.now in
    let e = view c.in-Some.event in
    let i = c.events.invariant in
    let k = c.events.position in
    let front = take k es in
    let comes : ComesAt es k e = next_comes es (g.S.EventStream.rest c.next.new.self) k e (sym i.rest ∙ c.in-Some.ensures.some) in
    let whole : es ≡ front ++ e ∷ drop (suc k) es = sym (take-append-drop k es) ∙ ap (λ l. front ++ l) comes in
    let none : fault_at o table (front ++ e ∷ []) (length front) ≡ None =
    not_faulty c.front_faults.ensures.faultless o table es front e (drop (suc k) es) whole c.requires.faultless in
    not_told c.in-Err-Source.field-0 c.in-Err-Source.field-0-0 c.in-Err-Source.field-0-is
    (c.in-Err-Source.ensures.fault front i.stands
    ∙ ap (λ (x : Options). fault_at x (g.T.Aims.table (table_in c.events.parts)) (front ++ e ∷ []) (length front)) i.options
    ∙ ap (λ t. fault_at o (g.T.Aims.table t) (front ++ e ∷ []) (length front)) i.table
    ∙ none)

pub take-requires-clause-bends : goal.take-requires-clause-bends
take-requires-clause-bends g c =
    ap (λ (x : Options). bends_notes x.route) (c.in-Ok.ensures.options ∙ c.events.invariant.options) ∙ ap bends_notes c.requires.route

-- each turn of the loop, where its event is taken
module _ (g : Over) (c : After-as_slice g) where
  abbrev o : Options
  o = asked c.args.parts.now

  abbrev table : Targets
  table = g.T.Aims.table (table_in c.args.parts.now)

  abbrev es : List MidiEvent
  es = g.S.EventStream.all c.args.stream.now

  abbrev plan : Plan
  plan = c.args.plan.now

  abbrev k : ℕ
  k = c.events.position

  abbrev e : MidiEvent
  e = view c.in-Some.event

  abbrev b : Bending
  b = c.take.new.self

  comes : ComesAt es k e
  comes = next_comes es (g.S.EventStream.rest c.next.new.self) k e (sym c.events.invariant.rest ∙ c.in-Some.ensures.some)

  long : k < length es
  long = (c.turning.ensures.taken es k e comes).2

  stands : Stands (g.T.Aims.table (table_in c.step.new.self)) c.step.new.self (take (suc k) es)
  stands = subst (Stands (g.T.Aims.table (table_in c.step.new.self)) c.step.new.self) (sym (c.turning.ensures.taken es k e comes).0)
      (c.in-Ok.ensures.stands (take k es) c.events.invariant.stands)

  module _ (allowed : ℕ → Bool) (planned : IsPlan o allowed table es plan) where
    bending : IsBending o allowed table es plan
    bending =
        let high = c.args.parts.now.source.range_high in
        is_bending o allowed table es plan (record {
          route = c.requires.route;
          range = omega (arith, high);
          valid = c.requires.valid;
          in_order = c.requires.order;
          faultless = c.requires.faultless;
          planned = planned;
        })

    going : Going o allowed table es plan k c.events.bending.ports.items c.args.out.now c.events.out
    going = c.events.invariant.going allowed planned

    next : IsTaken o allowed table es plan k e b
    next =
        let i = c.events.invariant in
        let was = c.events.parts in
        let new = c.step.new.self in
        let tells : TellsChange (asked new) (g.T.Aims.table (table_in new)) (take k es) e c.in-Ok.change =
        moved (λ x t. TellsChange x (g.T.Aims.table t) (take k es) e c.in-Ok.change) (asked was) (asked new) (table_in was) (table_in new)
        c.in-Ok.ensures.options c.in-Ok.ensures.table (c.in-Ok.ensures.change (take k es) i.stands) in
        turned g.T.Aims.table o (asked was) (asked new) (table_in c.args.parts.now) (table_in was) (table_in new) i.options i.table
        (c.in-Ok.ensures.options ∙ i.options) (c.in-Ok.ensures.table ∙ i.table) allowed es plan k e c.events.bending.ports.items c.prepare.new.self b
        bending going.stands (λ h s. c.in_ok-prepare.ensures allowed es plan k h comes long i.stands s)
        (λ h r. c.in_ok-take.ensures allowed es k h comes long stands tells r)

  -- what is put for the event
  same : block_events (options_of c.options-options.result) e c.as_slice.result.now ≡ block_events o e b.out.messages.items
  same = ap (λ x. block_events x e c.as_slice.result.now) c.options-options.ensures ∙ ap (block_events o e) c.as_slice.ensures.value

pub put_block-requires : goal.put_block-requires
put_block-requires g c =
    let d = (goal.at.put_block-requires g c).After-as_slice in
    let allowed = c.requires.planned.allowed in
    let planned = c.requires.planned.planned in
    subst (AllMayPut c.events.out) (sym (same g d)) (may c.turning.ensures.turn c.turning.ensures.wait c.turning.ensures.taken (o g d) allowed
    (table g d) (es g d) (plan g d) (bending g d allowed planned) (k g d) (e g d) (comes g d) (long g d) c.args.out.now c.events.out
    (going g d allowed planned).put (b g d) (next g d allowed planned) c.requires.planned.may)

pub events-preserved : goal.events-preserved
events-preserved g c =
    let d = (goal.at.events-preserved g c).After-as_slice in
    let i = c.events.invariant in
    let was = c.events.parts in
    let new = c.step.new.self in
    let more = g.S.EventStream.rest c.next.new.self in
    let some = c.in-Some.ensures.some in
    let low : k g d < length (es g d) = long g d in
    let one : suc (k g d) ≡ k g d + 1 = omega arith in
    let order = subst (λ (l : List MidiEvent). AreInOrder (tick_of was) l) some i.order in
    record {
      all = c.in-Some.ensures.all ∙ i.all;
      table = c.in-Ok.ensures.table ∙ i.table;
      options = c.in-Ok.ensures.options ∙ i.options;
      at = c.in-Ok.ensures.position;
      low = omega (arith, low);
      rest = next_rest (es g d) more (k g d) (e g d) (sym i.rest ∙ some) ∙ ap (λ j. drop j (es g d)) one;
      order = subst (λ (t : ℕ). AreInOrder t more) (sym c.in-Ok.ensures.tick) order.1;
      valid = (subst (λ (l : List MidiEvent). AllByRecursion IsValidEvent l) some i.valid).1;
      tracks = (subst (λ (l : List MidiEvent). AllByRecursion (λ x. x.track < 1024) l) some i.tracks).1;
      stands = subst (λ j. Stands (g.T.Aims.table (table_in new)) new (take j (es g d))) one (stands g d);
      going = λ allowed planned.
          subst (λ j. Going (o g d) allowed (table g d) (es g d) (plan g d) j (b g d).ports.items c.args.out.now c.put_block.new.out) one
          (goes_on c.turning.ensures.turn c.turning.ensures.wait c.turning.ensures.taken (o g d) allowed (table g d) (es g d) (plan g d)
          (bending g d allowed planned) (k g d) (e g d) (comes g d) (long g d) c.args.out.now c.events.out (going g d allowed planned).put (b g d)
          (next g d allowed planned) c.put_block.new.out (c.in_ok-put_block.ensures.put ∙ ap (put_all c.events.out) (same g d)));
    }

pub returns-in_err-put_block-clause-front : goal.returns-in_err-put_block-clause-front
returns-in_err-put_block-clause-front g c =
    let d = (goal.at.returns-in_err-put_block-clause-front g c).After-as_slice in
    on_err _ c.from_residual-in_err-put_block.result (λ allowed planned. fronts c.turning.ensures.turn c.turning.ensures.wait c.turning.ensures.taken
    (o g d) allowed (table g d) (es g d) (plan g d) (bending g d allowed planned) (k g d) (e g d) (comes g d) (long g d) c.args.out.now c.events.out
    (going g d allowed planned).put (b g d) (next g d allowed planned) c.put_block.new.out
    (subst (λ l. IsFront c.events.out l c.put_block.new.out) (same g d) c.in_err-put_block.ensures.front))

pub returns-clause-put : goal.returns-clause-put
returns-clause-put g c = λ allowed planned.
    let o = asked c.args.parts.now in
    let table = g.T.Aims.table (table_in c.args.parts.now) in
    let es = g.S.EventStream.all c.args.stream.now in
    let i = c.events.invariant in
    ends o allowed table es c.args.plan.now c.events.position c.events.bending.ports.items c.args.out.now c.events.out (i.going allowed planned)
    (sym i.rest ∙ c.in_default.ensures.none.0)

pub returns-in_err-prepare-clause-front : goal.returns-in_err-prepare-clause-front
returns-in_err-prepare-clause-front g c =
    let o = asked c.args.parts.now in
    let table = g.T.Aims.table (table_in c.args.parts.now) in
    let es = g.S.EventStream.all c.args.stream.now in
    on_err _ c.from_residual.result (λ allowed planned. stops o allowed table es c.args.plan.now c.events.position c.events.bending.ports.items
    c.args.out.now c.events.out (c.events.invariant.going allowed planned))

pub returns-in-Err-Memory-clause-front : goal.returns-in-Err-Memory-clause-front
returns-in-Err-Memory-clause-front g c =
    let o = asked c.args.parts.now in
    let table = g.T.Aims.table (table_in c.args.parts.now) in
    let es = g.S.EventStream.all c.args.stream.now in
    λ allowed planned. stops o allowed table es c.args.plan.now c.events.position c.events.bending.ports.items
    c.args.out.now c.events.out (c.events.invariant.going allowed planned)

pub returns-in_err-take-clause-front : goal.returns-in_err-take-clause-front
returns-in_err-take-clause-front g c =
    let o = asked c.args.parts.now in
    let table = g.T.Aims.table (table_in c.args.parts.now) in
    let es = g.S.EventStream.all c.args.stream.now in
    on_err _ c.from_residual-in_err-take.result (λ allowed planned. stops o allowed table es c.args.plan.now c.events.position
    c.events.bending.ports.items c.args.out.now c.events.out (c.events.invariant.going allowed planned))
