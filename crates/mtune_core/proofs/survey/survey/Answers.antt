use Rattle.std.proofs.Common.{◌≡◌, ◌<◌, ◌++◌, [], ◌∷◌, length, refl, sym, ap, subst, ◌∙◌, arith}
use Rattle.std.specs.List.{AllByRecursion}
use Rattle.mt_base.specs.Midi.{MidiEvent, view}
use Rattle.mt_base.specs.Valid.{IsValidEvent}
use Rattle.midi_model.specs.Order.{AreInOrder}
use Rattle.retune_model.specs.Options.{Options}
use Rattle.retune_model.specs.SourceFaults.{first_fault}
use Rattle.lifetimes.specs.Stands.{asked, table_in, tick_of}
use Rattle.mtune_core.specs.Survey.{IsFound}
use Rattle.mtune_core.proofs.Surveyed.{front_next, first_told, told_on}
use Rattle.mtune_core.proofs.survey.survey.Goals as goal

pub events-init : goal.events-init
events-init g c =
    let all = g.S.EventStream.all c.args.stream.now in
    let rest : g.S.EventStream.rest c.rewind.new.self ≡ all = c.rewind.ensures.rest in
    let few = c.requires.few in
    record {
      all = c.rewind.ensures.all;
      table = refl;
      options = refl;
      position = sym c.requires.start.position;
      few = omega (arith, ap length rest, few);
      valid = subst (AllByRecursion IsValidEvent) (sym rest) c.requires.valid;
      order = subst (λ t. AreInOrder t (g.S.EventStream.rest c.rewind.new.self)) (sym c.requires.start.tick)
          (subst (AreInOrder 0) (sym rest) c.requires.order);
      tracks = subst (AllByRecursion (λ (e : MidiEvent). e.track < 1024)) (sym rest) c.requires.tracks;
      front = ([], sym rest, c.requires.start, c.new-found.ensures (asked c.args.parts.now));
    }

pub returns-in_err-change-clause-fault : goal.returns-in_err-change-clause-fault
returns-in_err-change-clause-fault g c =
    let inv = c.events.invariant in
    let o = asked c.events.parts in
    let table = g.T.Aims.table (table_in c.events.parts) in
    let seen = inv.front.0 in
    let stands = inv.front.2 in
    let e = view c.in-Some.event in
    let rest = g.S.EventStream.rest c.next.new.self in
    let f = c.in_err-change.field-0.0 in
    let whole : g.S.EventStream.all c.args.stream.now ≡ seen ++ e ∷ rest = inv.front.1 ∙ ap (λ l. seen ++ l) c.in-Some.ensures.some in
    let restless = ap (λ (x : Options). x.tail) inv.options ∙ c.requires.restless in
    told_on c.from_residual.result f c.from_residual.ensures.1
    ∙ first_told c.front_faults.ensures.first o table seen e rest f restless c.in_err-change.ensures.memory stands.faultless
    (c.in_err-change.ensures.fault seen stands)
    ∙ ap (λ l. first_fault o table l) (sym whole)
    ∙ ap (λ x. first_fault x table (g.S.EventStream.all c.args.stream.now)) inv.options
    ∙ ap (λ t. first_fault (asked c.args.parts.now) (g.T.Aims.table t) (g.S.EventStream.all c.args.stream.now)) inv.table

pub events-preserved : goal.events-preserved
events-preserved g c =
    let inv = c.events.invariant in
    let o = asked c.events.parts in
    let seen = inv.front.0 in
    let stands = inv.front.2 in
    let e = view c.in-Some.event in
    let rest = g.S.EventStream.rest c.next.new.self in
    let some : g.S.EventStream.rest c.events.stream ≡ e ∷ rest = c.in-Some.ensures.some in
    let few = inv.few in
    let done = c.in_ok-change.ensures in
    record {
      all = c.next.ensures.all ∙ inv.all;
      table = c.step.ensures.table ∙ inv.table;
      options = c.step.ensures.options ∙ inv.options;
      position = sym done.position;
      few = omega (arith, few, ap length some);
      valid = (subst (AllByRecursion IsValidEvent) some inv.valid).1;
      order = subst (λ t. AreInOrder t rest) (sym done.tick) (subst (AreInOrder (tick_of c.events.parts)) some inv.order).1;
      tracks = (subst (AllByRecursion (λ (x : MidiEvent). x.track < 1024)) some inv.tracks).1;
      front = (
        seen ++ e ∷ [],
        front_next (g.S.EventStream.all c.args.stream.now) seen e (g.S.EventStream.rest c.events.stream) rest inv.front.1 some,
        done.stands seen stands,
        subst (λ x. IsFound x (seen ++ e ∷ []) c.take.new.self) (sym c.step.ensures.options)
            (c.take.ensures o (g.T.Aims.table (table_in c.events.parts)) seen e (done.change seen stands) inv.front.3),
      );
    }
