use Rattle.std.proofs.Common.{◌<◌, length, arith, ap, sym, Some, ◌∙◌}
use Rattle.std.proofs.lemmas.Bool.{eqb-true}
use Rattle.smf_read.proofs.Steps.{nonzero}
use Rattle.smf_read.proofs.Runs.{no_end, shorter, ends, goes_on, fails}
use Rattle.smf_read.proofs.cursor.fault_in.Goals as goal

pub returns-in-Err-clause-exact : goal.returns-in-Err-clause-exact
returns-in-Err-clause-exact c =
    let l = c.events in
    let some : 0 < length l.rest.now = nonzero _ (sym c.events-test.ensures) in
    sym (ap (λ r. r.fault) (fails c.reading_laws.ensures.events l.running l.tick l.rest.now c.in-Err.stop l.invariant.status some c.in-Err.ensures.gives)) ∙ l.invariant.told

pub returns-then-is_end-clause-exact : goal.returns-then-is_end-clause-exact
returns-then-is_end-clause-exact c =
    let l = c.events in
    sym (ap (λ r. r.fault) (ends c.reading_laws.ensures.events c.reading_laws.ensures.two_bytes l.running l.tick l.rest.now _ l.invariant.status c.in-Ok.ensures.gives (sym c.if-is_end.ensures))) ∙ l.invariant.told

pub events-smaller : goal.events-smaller
events-smaller c =
    let l = c.events in
    shorter c.reading_laws.ensures.two_bytes l.running l.tick l.rest.now _ l.invariant.status c.in-Ok.ensures.gives

pub events-preserved : goal.events-preserved
events-preserved c =
    let l = c.events in
    record {
      told = sym (ap (λ r. r.fault) (goes_on c.reading_laws.ensures.events c.reading_laws.ensures.two_bytes l.running l.tick l.rest.now _ l.invariant.status c.in-Ok.ensures.gives (sym c.if-is_end.ensures))) ∙ l.invariant.told;
      status = c.in-Ok.ensures.running;
      in_time = c.in-Ok.ensures.tick;
      within = omega (arith, c.in-Ok.ensures.within, l.invariant.within);
    }

pub returns-clause-exact : goal.returns-clause-exact
returns-clause-exact c =
    let l = c.events in
    ap Some c.stop.ensures ∙ sym (no_end l.running l.tick l.rest.now (eqb-true _ 0 (sym c.events-test.ensures))) ∙ l.invariant.told
