use Rattle.std.proofs.Common.{◌≡◌, ◌<◌, ◌++◌, [], ◌∷◌, length, refl, sym, ap, subst, ◌∙◌, arith}
use Rattle.std.specs.List.{AllByRecursion}
use Rattle.mt_base.specs.Midi.{MidiEvent, view}
use Rattle.mt_base.specs.Valid.{IsValidEvent}
use Rattle.midi_model.specs.Order.{AreInOrder}
use Rattle.retune_model.specs.Options.{Options}
use Rattle.retune_model.specs.SourceFaults.{fault_at}
use Rattle.lifetimes.specs.Stands.{asked, table_in, tick_of}
use Rattle.audit_report.specs.Audit.{IsAudit}
use Rattle.mtune_core.proofs.Surveyed.{front_next, key_is_low, not_faulty, not_told}
use Rattle.mtune_core.proofs.audited.hear.Goals as goal

pub events-init : goal.events-init
events-init g c =
    let all = g.S.EventStream.all c.args.stream.now in
    let rest : g.S.EventStream.rest c.rewind.new.self ≡ all = c.rewind.ensures.rest in
    let few = c.requires.few in
    record {
      table = refl;
      options = refl;
      position = sym c.requires.start.position;
      few = omega (arith, ap length rest, few);
      valid = subst (AllByRecursion IsValidEvent) (sym rest) c.requires.valid;
      order = subst (λ t. AreInOrder t (g.S.EventStream.rest c.rewind.new.self)) (sym c.requires.start.tick)
          (subst (AreInOrder 0) (sym rest) c.requires.order);
      tracks = subst (AllByRecursion (λ (e : MidiEvent). e.track < 1024)) (sym rest) c.requires.tracks;
      front = ([], sym rest, c.requires.start, c.requires.none);
    }

pub unreachable-requires : goal.unreachable-requires
unreachable-requires g c =
    let inv = c.events.invariant in
    let o = asked c.args.parts.now in
    let table = g.T.Aims.table (table_in c.args.parts.now) in
    let all = g.S.EventStream.all c.args.stream.now in
    let seen = inv.front.0 in
    let e = view c.in-Some.event in
    let rest = g.S.EventStream.rest c.next.new.self in
    let whole : all ≡ seen ++ e ∷ rest = inv.front.1 ∙ ap (λ l. seen ++ l) c.in-Some.ensures.some in
    not_told c.in-Err-Source.field-0 c.in-Err-Source.field-0-0 c.in-Err-Source.field-0-is
    (c.in-Err-Source.ensures.fault seen inv.front.2
    ∙ ap (λ (x : Options). fault_at x (g.T.Aims.table (table_in c.events.parts)) (seen ++ e ∷ []) (length seen)) inv.options
    ∙ ap (λ t. fault_at o (g.T.Aims.table t) (seen ++ e ∷ []) (length seen)) inv.table
    ∙ not_faulty c.front_faults.ensures.faultless o table all seen e rest whole c.requires.faultless)

pub take-requires : goal.take-requires
take-requires g c =
    let inv = c.events.invariant in
    let e = view c.in-Some.event in
    let seen = inv.front.0 in
    let valid = (subst (AllByRecursion IsValidEvent) c.in-Some.ensures.some inv.valid).0 in
    record {
      key = key_is_low (asked c.events.parts) (g.T.Aims.table (table_in c.events.parts)) seen e c.in-Ok.change valid
          (c.in-Ok.ensures.change seen inv.front.2);
    }

pub events-preserved : goal.events-preserved
events-preserved g c =
    let inv = c.events.invariant in
    let o = asked c.events.parts in
    let seen = inv.front.0 in
    let stands = inv.front.2 in
    let e = view c.in-Some.event in
    let rest = g.S.EventStream.rest c.next.new.self in
    let some : g.S.EventStream.rest c.events.stream ≡ e ∷ rest = c.in-Some.ensures.some in
    let few = inv.few in
    let done = c.in-Ok.ensures in
    record {
      table = c.step.ensures.table ∙ inv.table;
      options = c.step.ensures.options ∙ inv.options;
      position = sym done.position;
      few = omega (arith, few, ap length some);
      valid = (subst (AllByRecursion IsValidEvent) some inv.valid).1;
      order = subst (λ t. AreInOrder t rest) (sym done.tick) (subst (AreInOrder (tick_of c.events.parts)) some inv.order).1;
      tracks = (subst (AllByRecursion (λ (x : MidiEvent). x.track < 1024)) some inv.tracks).1;
      front = (
        seen ++ e ∷ [],
        front_next (g.S.EventStream.all c.args.stream.now) seen e (g.S.EventStream.rest c.events.stream) rest inv.front.1 some,
        done.stands seen stands,
        subst (λ x. IsAudit x (seen ++ e ∷ []) c.take.new.self) (sym c.step.ensures.options)
            (c.in_ok-take.ensures o (g.T.Aims.table (table_in c.events.parts)) seen (done.change seen stands) inv.front.3),
      );
    }
