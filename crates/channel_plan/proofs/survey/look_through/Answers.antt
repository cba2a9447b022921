use Rattle.std.proofs.Common.{◌≡◌, ◌<◌, ◌∙◌, ◌++◌, ◌∷◌, [], ◌+◌, ℕ, suc, List, Some, length, take, drop, refl, sym, ap, subst, arith}
use Rattle.std.proofs.Math.Seq.{take-length}
use Rattle.std.specs.List.{AllByRecursion}
use Rattle.mt_base.specs.Midi.{view, MidiEvent}
use Rattle.mt_base.specs.Valid.{IsValidEvent}
use Rattle.midi_model.specs.Order.{AreInOrder}
use Rattle.retune_model.specs.Options.{Options}
use Rattle.retune_model.specs.SourceFaults.{IsFaultless, fault_at}
use Rattle.plan_laws.specs.Counting.{ComesAt}
use Rattle.lifetimes.specs.Stands.{Stands, asked, table_in, tick_of}
use Rattle.lifetimes.specs.Told.{TellsChange, source_of}
use Rattle.lifetimes.specs.Views.{fault_of}
use Rattle.channel_plan.specs.Surveys.{SurveysTo}
use Rattle.channel_plan.proofs.Surveyed.{next_rest, next_comes, is_last}
use Rattle.channel_plan.proofs.survey.look_through.Goals as goal

pub events-init : goal.events-init
events-init g c =
    let is : g.S.EventStream.rest c.rewind.new.self ≡ g.S.EventStream.all c.args.stream.now = c.rewind.ensures.rest in
    record {
      all = c.rewind.ensures.all;
      table = refl;
      options = refl;
      at = c.requires.start.position;
      low = omega arith;
      rest = is;
      order = subst (λ (t : ℕ). AreInOrder t (g.S.EventStream.rest c.rewind.new.self)) (sym c.requires.start.tick)
          (subst (λ (l : List MidiEvent). AreInOrder 0 l) (sym is) c.requires.asked.order);
      valid = subst (λ (l : List MidiEvent). AllByRecursion IsValidEvent l) (sym is) c.requires.asked.valid;
      tracks = subst (λ (l : List MidiEvent). AllByRecursion (λ e. e.track < 1024) l) (sym is) c.requires.asked.tracks;
      stands = c.requires.start;
      surveys = c.new-survey.ensures (asked c.args.parts.now) (g.T.Aims.table (table_in c.args.parts.now))
          (g.S.EventStream.all c.args.stream.now) c.requires.counted;
    }

pub returns-in-Err-Source-clause-fault : goal.returns-in-Err-Source-clause-fault
returns-in-Err-Source-clause-fault g c =
    let o = asked c.args.parts.now in
    let table = g.T.Aims.table (table_in c.args.parts.now) in
    let es = g.S.EventStream.all c.args.stream.now in
    let e = view c.in-Some.event in
    let i = c.events.invariant in
    let front = take c.events.position es in
    let comes : ComesAt es c.events.position e =
    next_comes es (g.S.EventStream.rest c.next.new.self) c.events.position e (sym i.rest ∙ c.in-Some.ensures.some) in
    let faultless : IsFaultless o table front =
    subst (λ (x : Options). IsFaultless x (g.T.Aims.table (table_in c.args.parts.now)) front) i.options
    (subst (λ t. IsFaultless (asked c.events.parts) (g.T.Aims.table t) front) i.table i.stands.faultless) in
    let told = c.in-Err-Source.ensures.fault front i.stands
    ∙ ap (λ (x : Options). fault_at x (g.T.Aims.table (table_in c.events.parts)) (front ++ e ∷ []) (length front)) i.options
    ∙ ap (λ t. fault_at o (g.T.Aims.table t) (front ++ e ∷ []) (length front)) i.table in
    c.taken_laws.ensures.fault o table es c.events.position e _ comes faultless (sym told ∙ ap source_of c.in-Err-Source.field-0-is
    ∙ ap (λ f. Some (fault_of f)) (sym c.in-Err-Source.fault-is))

pub events-preserved : goal.events-preserved
events-preserved g c =
    let es = g.S.EventStream.all c.args.stream.now in
    let e = view c.in-Some.event in
    let i = c.events.invariant in
    let some = c.in-Some.ensures.some in
    let more = g.S.EventStream.rest c.next.new.self in
    let k = c.events.position in
    let one : suc k ≡ k + 1 = omega arith in
    let comes : ComesAt es k e = next_comes es more k e (sym i.rest ∙ some) in
    let o = asked c.args.parts.now in
    let T = table_in c.args.parts.now in
    let tables = c.in-Ok.ensures.table ∙ i.table in
    let options = c.in-Ok.ensures.options ∙ i.options in
    let front : take k es ++ e ∷ [] ≡ take (suc k) es = sym (c.taken_laws.ensures.next es k e comes).0 in
    let order = subst (λ (l : List MidiEvent). AreInOrder (tick_of c.events.parts) l) some i.order in
    let long : k < length es = (c.taken_laws.ensures.next es k e comes).2 in
    let new = c.step.new.self in
    let stands : Stands (g.T.Aims.table (table_in new)) new (take (suc k) es) =
    subst (Stands (g.T.Aims.table (table_in new)) new) front (c.in-Ok.ensures.stands (take k es) i.stands) in
    let tells : TellsChange (asked new) (g.T.Aims.table (table_in new)) (take k es) e c.in-Ok.change =
    subst (λ t. TellsChange (asked new) (g.T.Aims.table t) (take k es) e c.in-Ok.change) (sym c.in-Ok.ensures.table)
    (subst (λ (x : Options). TellsChange x (g.T.Aims.table (table_in c.events.parts)) (take k es) e c.in-Ok.change) (sym c.in-Ok.ensures.options)
    (c.in-Ok.ensures.change (take k es) i.stands)) in
    let seen : SurveysTo (asked new) (g.T.Aims.table (table_in new)) es k c.events.survey =
    subst (λ t. SurveysTo (asked new) (g.T.Aims.table t) es k c.events.survey) (sym tables)
    (subst (λ (x : Options). SurveysTo x (g.T.Aims.table T) es k c.events.survey) (sym options) i.surveys) in
    let sees : SurveysTo (asked new) (g.T.Aims.table (table_in new)) es (suc k) c.see.new.self =
    c.in-Ok-see.ensures es k comes (omega arith) stands tells seen in
    record {
      all = c.in-Some.ensures.all ∙ i.all;
      table = tables;
      options = options;
      at = c.in-Ok.ensures.position;
      low = omega (arith, long);
      rest = next_rest es more k e (sym i.rest ∙ some) ∙ ap (λ j. drop j es) one;
      order = subst (λ (t : ℕ). AreInOrder t more) (sym c.in-Ok.ensures.tick) order.1;
      valid = (subst (λ (l : List MidiEvent). AllByRecursion IsValidEvent l) some i.valid).1;
      tracks = (subst (λ (l : List MidiEvent). AllByRecursion (λ x. x.track < 1024) l) some i.tracks).1;
      stands = subst (λ j. Stands (g.T.Aims.table (table_in new)) new (take j es)) one stands;
      surveys = subst (λ j. SurveysTo o (g.T.Aims.table T) es j c.see.new.self) one
          (subst (λ t. SurveysTo o (g.T.Aims.table t) es (suc k) c.see.new.self) tables
          (subst (λ (x : Options). SurveysTo x (g.T.Aims.table (table_in new)) es (suc k) c.see.new.self) options sees));
    }

pub returns-clause-surveys : goal.returns-clause-surveys
returns-clause-surveys g c =
    let es = g.S.EventStream.all c.args.stream.now in
    let i = c.events.invariant in
    let none : drop c.events.position es ≡ [] = sym i.rest ∙ c.in_default.ensures.none.0 in
    subst (λ k. SurveysTo (asked c.args.parts.now) (g.T.Aims.table (table_in c.args.parts.now)) es k c.events.survey)
    (is_last es c.events.position none i.low) i.surveys

pub returns-clause-faultless : goal.returns-clause-faultless
returns-clause-faultless g c =
    let es = g.S.EventStream.all c.args.stream.now in
    let i = c.events.invariant in
    let none : drop c.events.position es ≡ [] = sym i.rest ∙ c.in_default.ensures.none.0 in
    let whole : take c.events.position es ≡ es = ap (λ k. take k es) (is_last es c.events.position none i.low) ∙ take-length es in
    subst (λ (x : Options). IsFaultless x (g.T.Aims.table (table_in c.args.parts.now)) es) i.options
    (subst (λ t. IsFaultless (asked c.events.parts) (g.T.Aims.table t) es) i.table
    (subst (λ (l : List MidiEvent). IsFaultless (asked c.events.parts) (g.T.Aims.table (table_in c.events.parts)) l) whole i.stands.faultless))
