use Rattle.std.proofs.Common.{◌≡◌, ◌<◌, ◌++◌, [], ◌∷◌, length, refl, sym, ap, subst, ◌∙◌, arith, append_assoc}
use Rattle.std.specs.List.{AllByRecursion}
use Rattle.mt_base.specs.Midi.{MidiEvent, view}
use Rattle.mt_base.specs.Valid.{IsValidEvent}
use Rattle.midi_model.specs.Order.{AreInOrder}
use Rattle.lifetimes.specs.Noted.{IsNoted}
use Rattle.lifetimes.specs.Stands.{asked, table_in, tick_of}
use Rattle.route_tests.proofs.tests.output.look.Goals as goal

pub events-init : goal.events-init
events-init g c =
    let rest : g.S.EventStream.rest c.rewind.new.self ≡ g.S.EventStream.all c.args.stream.now = c.rewind.ensures.rest in
    let few = c.requires.few in
    record {
      all = c.rewind.ensures.all;
      table = refl;
      options = refl;
      position = sym c.requires.start.position;
      few = omega (arith, ap length rest, few);
      valid = subst (AllByRecursion IsValidEvent) (sym rest) c.requires.valid;
      order = subst (λ t. AreInOrder t (g.S.EventStream.rest c.rewind.new.self)) (sym c.requires.start.tick)
          (subst (AreInOrder 0) (sym rest) c.requires.order);
      tracks = subst (AllByRecursion (λ (e : MidiEvent). e.track < 1024)) (sym rest) c.requires.tracks;
      front = ([], sym rest, c.requires.start, c.new-noted.ensures (asked c.args.parts.now));
    }

pub events-preserved : goal.events-preserved
events-preserved g c =
    let inv = c.events.invariant in
    let o = asked c.events.parts in
    let seen = inv.front.0 in
    let stands = inv.front.2 in
    let e = view c.in-Some.event in
    let rest = g.S.EventStream.rest c.next.new.self in
    let some : g.S.EventStream.rest c.events.stream ≡ e ∷ rest = c.in-Some.ensures.some in
    let few = inv.few in
    let done = c.in-Ok.ensures in
    record {
      all = c.next.ensures.all ∙ inv.all;
      table = c.step.ensures.table ∙ inv.table;
      options = c.step.ensures.options ∙ inv.options;
      position = sym done.position;
      few = omega (arith, few, ap length some);
      valid = (subst (AllByRecursion IsValidEvent) some inv.valid).1;
      order = subst (λ t. AreInOrder t rest) (sym done.tick) (subst (AreInOrder (tick_of c.events.parts)) some inv.order).1;
      tracks = (subst (AllByRecursion (λ (x : MidiEvent). x.track < 1024)) some inv.tracks).1;
      front = (
        seen ++ e ∷ [],
        inv.front.1 ∙ ap (λ l. seen ++ l) some ∙ sym (append_assoc seen (e ∷ []) rest),
        done.stands seen stands,
        subst (λ x. IsNoted x (seen ++ e ∷ []) c.take.new.self) (sym c.step.ensures.options)
            (c.take.ensures o (g.T.Aims.table (table_in c.events.parts)) seen e (done.change seen stands) inv.front.3),
      );
    }
