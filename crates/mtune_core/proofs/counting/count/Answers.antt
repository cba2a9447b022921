use Rattle.std.proofs.Common.{◌≡◌, ◌++◌, [], ◌∷◌, sym, subst, ◌∙◌}
use Rattle.std.specs.List.{AllByRecursion}
use Rattle.mt_base.specs.Midi.{view}
use Rattle.mt_base.specs.Valid.{IsValidEvent}
use Rattle.lifetimes.specs.Views.{options_of}
use Rattle.mtune_core.proofs.Surveyed.{front_next, room_for_one}
use Rattle.mtune_core.proofs.counting.count.Goals as goal

pub events-init : goal.events-init
events-init g c =
    let rest : g.S.EventStream.rest c.rewind.new.self ≡ g.S.EventStream.all c.args.stream.now = c.rewind.ensures.rest in
    record {
      all = c.rewind.ensures.all;
      valid = subst (AllByRecursion IsValidEvent) (sym rest) c.requires.valid;
      front = ([], sym rest, c.new-used.ensures (options_of c.args.options));
    }

pub take-requires-clause-few : goal.take-requires-clause-few
take-requires-clause-few g c =
    let inv = c.events.invariant in
    room_for_one (options_of c.args.options) (g.S.EventStream.all c.args.stream.now) inv.front.0 (view c.in-Some.event)
    (g.S.EventStream.rest c.events.stream) (g.S.EventStream.rest c.next.new.self) c.events.used
    c.requires.few inv.front.1 c.in-Some.ensures.some inv.front.2

pub events-preserved : goal.events-preserved
events-preserved g c =
    let inv = c.events.invariant in
    let seen = inv.front.0 in
    let e = view c.in-Some.event in
    let some : g.S.EventStream.rest c.events.stream ≡ e ∷ g.S.EventStream.rest c.next.new.self = c.in-Some.ensures.some in
    record {
      all = c.next.ensures.all ∙ inv.all;
      valid = (subst (AllByRecursion IsValidEvent) some inv.valid).1;
      front = (
        seen ++ e ∷ [],
        front_next (g.S.EventStream.all c.args.stream.now) seen e (g.S.EventStream.rest c.events.stream)
            (g.S.EventStream.rest c.next.new.self) inv.front.1 some,
        c.take.ensures seen inv.front.2,
      );
    }
