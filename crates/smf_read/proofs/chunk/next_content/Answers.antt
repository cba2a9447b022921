use Rattle.std.proofs.Common.{arith, sym, ◌∙◌}
use Rattle.std.proofs.lemmas.Bool.{eq-eqb, ne_eqb}
use Rattle.std.proofs.lemmas.Result.{err_from_is_err_and}
use Rattle.smf_read.proofs.Chunks.{skips, takes_it, stops}
use Rattle.smf_read.proofs.chunk.next_content.Goals as goal

pub returns-in_err-found-clause-gives : goal.returns-in_err-found-clause-gives
returns-in_err-found-clause-gives c =
    let p = err_from_is_err_and c.from_residual.result c.from_residual.ensures.1 in
    rw (p.1, p.2) (sym c.chunks.invariant.told ∙ stops c.reading_laws.ensures.chunks c.chunks.rest.now _ c.in_err-found.ensures.gives)

pub returns-then-found-eq-MTRK-clause-gives : goal.returns-then-found-eq-MTRK-clause-gives
returns-then-found-eq-MTRK-clause-gives c =
    sym c.chunks.invariant.told ∙ takes_it c.reading_laws.ensures.chunks c.chunks.rest.now _ c.in_ok-found.ensures.gives (eq-eqb _ _ c.if-found-eq-MTRK.true)

pub chunks-preserved : goal.chunks-preserved
chunks-preserved c = record {
  told = sym (skips c.reading_laws.ensures.chunks c.chunks.rest.now _ c.in_ok-found.ensures.gives (ne_eqb _ _ c.if-found-eq-MTRK.false)) ∙ c.chunks.invariant.told;
  within = omega (arith, c.in_ok-found.ensures.part, c.chunks.invariant.within);
}
