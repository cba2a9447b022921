use Rattle.std.proofs.Common.{◌≡◌, ◌≤◌, ◌∙◌, ◌++◌, ◌∷◌, [], ◌+◌, suc, ap, sym, subst, length, cond, is_some, true, Some}
use Rattle.std.specs.Option.{option_map}
use Rattle.mt_base.specs.Midi.{view}
use Rattle.retune_model.specs.Ports.{port_at}
use Rattle.retune_model.specs.SourceFaults.{breaks_ports, fault_at}
use Rattle.lifetimes.specs.Views.{kind_of, bend_in, options_of}
use Rattle.lifetimes.specs.Told.{due_kind, told_kind, strike_of, count_begun, begun_of, begun_by, TellsEnds}
use Rattle.lifetimes.specs.Steps.{ComesNext}
use Rattle.lifetimes.proofs.Numbers.{count_next, strike_counts}
use Rattle.lifetimes.proofs.Answering.{placed, fault_by_due, order_more, begun_told, same_note, no_source, on_err, plus_one}
use Rattle.lifetimes.proofs.parts.Parts.step.Goals as goal

pub returns-in-Some-clause-fault : goal.returns-in-Some-clause-fault
returns-in-Some-clause-fault g c es s =
    let source = c.args.self.now.source in
    let o = options_of source.options in
    let table = g.T.Aims.table c.args.self.now.table in
    let e = view c.args.event.now in
    let at = c.port_of-port.ensures es s.tracks in
    let next : ComesNext table source es e c.port_of-port.result c.strike-strike.result = record {
      stands = s;
      valid = c.requires.valid;
      order = order_more 0 es e s.order (subst (λ t. t ≤ e.tick) s.tick c.requires.order);
      at = at;
      begins = c.strike-strike.ensures;
    } in
    let due = c.fault.ensures.fault table es next ∙ ap (λ z. due_kind o table (breaks_ports es e) (port_at (es ++ e ∷ []) z) (length es) e) at in
    let place = c.requires.next ∙ ap suc s.position in
    ap (λ p. Some (placed p e (kind_of c.in-Some.kind, bend_in c.in-Some.kind))) place
    ∙ ap (λ x. option_map (placed (suc (length es)) e) (told_kind x)) (sym c.in-Some.is)
    ∙ ap (option_map (placed (suc (length es)) e)) due
    ∙ sym (fault_by_due o table es e)

pub returns-in_err-admit-clause-fault : goal.returns-in_err-admit-clause-fault
returns-in_err-admit-clause-fault g c es s =
    let source = c.args.self.now.source in
    let o = options_of source.options in
    let table = g.T.Aims.table c.args.self.now.table in
    let e = view c.args.event.now in
    let at = c.port_of-port.ensures es s.tracks in
    let order = order_more 0 es e s.order (subst (λ t. t ≤ e.tick) s.tick c.requires.order) in
    let next : ComesNext table source es e c.port_of-port.result c.strike-strike.result = record {
      stands = s;
      valid = c.requires.valid;
      order = order;
      at = at;
      begins = c.strike-strike.ensures;
    } in
    let due = c.fault.ensures.fault table es next ∙ ap (λ z. due_kind o table (breaks_ports es e) (port_at (es ++ e ∷ []) z) (length es) e) at in
    let none = fault_by_due o table es e ∙ ap (option_map (placed (suc (length es)) e)) (sym due) ∙ ap (λ x. option_map (placed (suc (length es)) e) (told_kind x)) c.in_default.is in
    no_source c.from_residual.result c.from_residual.ensures.1 ∙ sym none

pub returns-in_err-admit-clause-unchanged : goal.returns-in_err-admit-clause-unchanged
returns-in_err-admit-clause-unchanged g c es s = on_err c.from_residual.result _ (c.admit.ensures.stands (g.T.Aims.table c.args.self.now.table) es s)

pub returns-clause-fault : goal.returns-clause-fault
returns-clause-fault g c es s =
    let source = c.args.self.now.source in
    let o = options_of source.options in
    let table = g.T.Aims.table c.args.self.now.table in
    let e = view c.args.event.now in
    let at = c.port_of-port.ensures es s.tracks in
    let order = order_more 0 es e s.order (subst (λ t. t ≤ e.tick) s.tick c.requires.order) in
    let next : ComesNext table source es e c.port_of-port.result c.strike-strike.result = record {
      stands = s;
      valid = c.requires.valid;
      order = order;
      at = at;
      begins = c.strike-strike.ensures;
    } in
    let due = c.fault.ensures.fault table es next ∙ ap (λ z. due_kind o table (breaks_ports es e) (port_at (es ++ e ∷ []) z) (length es) e) at in
    let none = fault_by_due o table es e ∙ ap (option_map (placed (suc (length es)) e)) (sym due) ∙ ap (λ x. option_map (placed (suc (length es)) e) (told_kind x)) c.in_default.is in
    sym none

pub returns-clause-change : goal.returns-clause-change
returns-clause-change g c es s =
    let source = c.args.self.now.source in
    let o = options_of source.options in
    let table = g.T.Aims.table c.args.self.now.table in
    let e = view c.args.event.now in
    let at = c.port_of-port.ensures es s.tracks in
    let order = order_more 0 es e s.order (subst (λ t. t ≤ e.tick) s.tick c.requires.order) in
    let next : ComesNext table source es e c.port_of-port.result c.strike-strike.result = record {
      stands = s;
      valid = c.requires.valid;
      order = order;
      at = at;
      begins = c.strike-strike.ensures;
    } in
    let due = c.fault.ensures.fault table es next ∙ ap (λ z. due_kind o table (breaks_ports es e) (port_at (es ++ e ∷ []) z) (length es) e) at in
    let none = fault_by_due o table es e ∙ ap (option_map (placed (suc (length es)) e)) (sym due) ∙ ap (λ x. option_map (placed (suc (length es)) e) (told_kind x)) c.in_default.is in
    let same = ap options_of c.admit.ensures.options in
    let then : ComesNext table c.admit.new.self es e c.port_of-port.result c.strike-strike.result = record {
      stands = c.admit.ensures.stands table es s;
      valid = c.requires.valid;
      order = order;
      at = at;
      begins = subst (λ p. c.strike-strike.result ≡ strike_of p table e.tick e.what) (sym same) c.strike-strike.ensures;
    } in
    let fine = ap (λ p. fault_at p table (es ++ e ∷ []) (length es)) same ∙ none in
    let stands = c.take.ensures.stands table es then fine in
    let counted : c.take.new.self.begun ≡ count_begun o (es ++ e ∷ []) = stands.begun ∙ ap (λ p. count_begun p (es ++ e ∷ []))
    (ap options_of c.take.ensures.options ∙ same) in
    let one : is_some c.strike-strike.result ≡ true → c.take.new.self.begun ≡ suc (count_begun o es) = (λ is.
    counted ∙ count_next o es e
    ∙ ap (λ b. cond b 1 0 + count_begun o es) (sym (strike_counts o table e.tick e.what) ∙ ap is_some (sym c.strike-strike.ensures) ∙ is)
    ∙ plus_one (count_begun o es)) in
    record {
      port = at;
      begun =
          c.begun_by-begun.ensures
          ∙ same_note c.port_of-port.result c.take.new.self.begun (suc (count_begun o es)) c.strike-strike.result one
          ∙ ap (begun_of c.port_of-port.result (suc (count_begun o es))) c.strike-strike.ensures
          ∙ begun_told o table c.port_of-port.result (suc (count_begun o es)) e.tick e.what
          ∙ ap (λ z. begun_by o table z (suc (count_begun o es)) e.tick e.what) at;
      ended = subst (λ p. TellsEnds p es e c.take.new.ends) same (c.take.ensures.ended table es then fine);
    }

pub returns-clause-stands : goal.returns-clause-stands
returns-clause-stands g c es s =
    let source = c.args.self.now.source in
    let o = options_of source.options in
    let table = g.T.Aims.table c.args.self.now.table in
    let e = view c.args.event.now in
    let at = c.port_of-port.ensures es s.tracks in
    let order = order_more 0 es e s.order (subst (λ t. t ≤ e.tick) s.tick c.requires.order) in
    let next : ComesNext table source es e c.port_of-port.result c.strike-strike.result = record {
      stands = s;
      valid = c.requires.valid;
      order = order;
      at = at;
      begins = c.strike-strike.ensures;
    } in
    let due = c.fault.ensures.fault table es next ∙ ap (λ z. due_kind o table (breaks_ports es e) (port_at (es ++ e ∷ []) z) (length es) e) at in
    let none = fault_by_due o table es e ∙ ap (option_map (placed (suc (length es)) e)) (sym due) ∙ ap (λ x. option_map (placed (suc (length es)) e) (told_kind x)) c.in_default.is in
    let same = ap options_of c.admit.ensures.options in
    let then : ComesNext table c.admit.new.self es e c.port_of-port.result c.strike-strike.result = record {
      stands = c.admit.ensures.stands table es s;
      valid = c.requires.valid;
      order = order;
      at = at;
      begins = subst (λ p. c.strike-strike.result ≡ strike_of p table e.tick e.what) (sym same) c.strike-strike.ensures;
    } in
    let fine = ap (λ p. fault_at p table (es ++ e ∷ []) (length es)) same ∙ none in
    c.take.ensures.stands table es then fine
