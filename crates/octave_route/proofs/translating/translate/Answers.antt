use Rattle.std.proofs.Common.{◌≡◌, ◌<◌, ◌∙◌, ◌++◌, ◌∷◌, [], ℕ, List, None, length, refl, sym, ap, subst, rules}
use Rattle.std.specs.List.{AllByRecursion}
use Rattle.mt_base.specs.Midi.{view, MidiEvent}
use Rattle.mt_base.specs.Valid.{IsValidEvent}
use Rattle.midi_model.specs.Order.{AreInOrder}
use Rattle.retune_model.specs.Options.{Options}
use Rattle.retune_model.specs.SourceFaults.{fault_at}
use Rattle.lifetimes.specs.Stands.{Stands, asked, table_in, tick_of}
use Rattle.routes.proofs.Puts.{more_put, may_next, front_of, on_err}
use Rattle.octave_route.specs.Output.{octaved}
use Rattle.octave_route.specs.Putting.{block_events, begun_in}
use Rattle.octave_route.proofs.Passing.{begins, passes, later, not_faulty, not_told, marks, turn}
use Rattle.octave_route.proofs.translating.translate.Goals as goal

pub events-init : goal.events-init
events-init g c = record {
  all = c.rewind.ensures.all;
  table = refl;
  options = refl;
  at = c.requires.start.position;
  long = refl;
  order = subst (λ (t : ℕ). AreInOrder t (g.S.EventStream.rest c.rewind.new.self)) (sym c.requires.start.tick)
      (subst (λ (l : List MidiEvent). AreInOrder 0 l) (sym c.rewind.ensures.rest) c.requires.order);
  valid = subst (λ (l : List MidiEvent). AllByRecursion IsValidEvent l) (sym c.rewind.ensures.rest) c.requires.valid;
  tracks = subst (λ (l : List MidiEvent). AllByRecursion (λ e. e.track < 1024) l) (sym c.rewind.ensures.rest) c.requires.tracks;
  passing = begins (Stands (g.T.Aims.table (table_in c.args.parts.now)) c.args.parts.now) (asked c.args.parts.now) c.args.values.now
      (g.S.EventStream.all c.args.stream.now) (g.S.EventStream.rest c.rewind.new.self) c.args.out.now c.requires.start c.rewind.ensures.rest;
}

pub unreachable-requires : goal.unreachable-requires
unreachable-requires g c =
    let o = asked c.args.parts.now in
    let table = g.T.Aims.table (table_in c.args.parts.now) in
    let all = g.S.EventStream.all c.args.stream.now in
    let more = g.S.EventStream.rest c.next.new.self in
    let e = view c.in-Some.event in
    let p = c.events.invariant.passing in
    let none : fault_at o table (p.front ++ e ∷ []) (length p.front) ≡ None =
    not_faulty c.front_faults.ensures.faultless o table all p.front e more
    (p.split ∙ ap (λ l. p.front ++ l) c.in-Some.ensures.some) c.requires.faultless in
    not_told c.in-Err-Source.field-0 c.in-Err-Source.field-0-0 c.in-Err-Source.field-0-is
    (c.in-Err-Source.ensures.fault p.front p.stands
    ∙ ap (λ (x : Options). fault_at x (g.T.Aims.table (table_in c.events.parts)) (p.front ++ e ∷ []) (length p.front)) c.events.invariant.options
    ∙ ap (λ t. fault_at o (g.T.Aims.table t) (p.front ++ e ∷ []) (length p.front)) c.events.invariant.table
    ∙ none)

pub pass_on-requires-clause-may : goal.pass_on-requires-clause-may
pass_on-requires-clause-may g c =
    let o = asked c.args.parts.now in
    let vs = c.args.values.now in
    let all = g.S.EventStream.all c.args.stream.now in
    let rest = g.S.EventStream.rest c.events.stream in
    let more = g.S.EventStream.rest c.next.new.self in
    let e = view c.in-Some.event in
    let before = Stands (g.T.Aims.table (table_in c.events.parts)) c.events.parts in
    let p = c.events.invariant.passing in
    let z = c.in-Ok.change.port in
    let mask = c.parts-channels.result in
    let fits : mask < 65536 = search rules in
    let tells = c.in-Ok.ensures.change p.front p.stands in
    let marked = marks mask o all z fits c.requires.valid (c.parts-channels.ensures o all c.requires.noted) in
    let next = turn before o vs all rest c.events.position c.events.begun c.args.out.now c.events.out p e more mask z c.in-Some.ensures.some
    tells.port marked in
    may_next c.args.out.now (octaved o vs all) (block_events mask vs (begun_in c.events.begun z) e)
    (later o vs all p.front z (begun_in c.events.begun) e more) c.events.out c.requires.may next

pub events-preserved : goal.events-preserved
events-preserved g c =
    let o = asked c.args.parts.now in
    let vs = c.args.values.now in
    let all = g.S.EventStream.all c.args.stream.now in
    let rest = g.S.EventStream.rest c.events.stream in
    let more = g.S.EventStream.rest c.next.new.self in
    let e = view c.in-Some.event in
    let before = Stands (g.T.Aims.table (table_in c.events.parts)) c.events.parts in
    let p = c.events.invariant.passing in
    let z = c.in-Ok.change.port in
    let mask = c.parts-channels.result in
    let fits : mask < 65536 = search rules in
    let tells = c.in-Ok.ensures.change p.front p.stands in
    let marked = marks mask o all z fits c.requires.valid (c.parts-channels.ensures o all c.requires.noted) in
    let next = turn before o vs all rest c.events.position c.events.begun c.args.out.now c.events.out p e more mask z c.in-Some.ensures.some
    tells.port marked in
    let some = c.in-Some.ensures.some in
    let order = subst (λ (l : List MidiEvent). AreInOrder (tick_of c.events.parts) l) some c.events.invariant.order in
    record {
      all = c.in-Some.ensures.all ∙ c.events.invariant.all;
      table = c.in-Ok.ensures.table ∙ c.events.invariant.table;
      options = c.in-Ok.ensures.options ∙ c.events.invariant.options;
      at = c.in-Ok.ensures.position;
      long = search rules;
      order = subst (λ (t : ℕ). AreInOrder t more) (sym c.in-Ok.ensures.tick) order.1;
      valid = (subst (λ (l : List MidiEvent). AllByRecursion IsValidEvent l) some c.events.invariant.valid).1;
      tracks = (subst (λ (l : List MidiEvent). AllByRecursion (λ x. x.track < 1024) l) some c.events.invariant.tracks).1;
      passing = passes before (Stands (g.T.Aims.table (table_in c.step.new.self)) c.step.new.self) o vs all rest c.events.position c.events.begun
          c.pass_on.new.begun
          c.args.out.now c.events.out c.pass_on.new.out p e more z some (c.in-Ok.ensures.stands p.front p.stands) c.in_ok-pass_on.ensures.kept
          (more_put c.args.out.now (octaved o vs all) (block_events mask vs (begun_in c.events.begun z) e)
          (later o vs all p.front z (begun_in c.events.begun) e more) c.events.out c.pass_on.new.out next c.in_ok-pass_on.ensures.put);
    }

pub returns-in_err-pass_on-clause-front : goal.returns-in_err-pass_on-clause-front
returns-in_err-pass_on-clause-front g c =
    let o = asked c.args.parts.now in
    let vs = c.args.values.now in
    let all = g.S.EventStream.all c.args.stream.now in
    let rest = g.S.EventStream.rest c.events.stream in
    let more = g.S.EventStream.rest c.next.new.self in
    let e = view c.in-Some.event in
    let before = Stands (g.T.Aims.table (table_in c.events.parts)) c.events.parts in
    let p = c.events.invariant.passing in
    let z = c.in-Ok.change.port in
    let mask = c.parts-channels.result in
    let fits : mask < 65536 = search rules in
    let tells = c.in-Ok.ensures.change p.front p.stands in
    let marked = marks mask o all z fits c.requires.valid (c.parts-channels.ensures o all c.requires.noted) in
    let next = turn before o vs all rest c.events.position c.events.begun c.args.out.now c.events.out p e more mask z c.in-Some.ensures.some
    tells.port marked in
    on_err _ c.from_residual.result
    (front_of c.args.out.now (octaved o vs all) (block_events mask vs (begun_in c.events.begun z) e)
    (later o vs all p.front z (begun_in c.events.begun) e more) c.events.out c.pass_on.new.out next c.in_err-pass_on.ensures.front)
