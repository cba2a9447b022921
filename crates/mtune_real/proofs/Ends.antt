-- The status of an outcome tells how the work ended.
use Rattle.std.proofs.Common.{ℕ, ◌≡◌, ◌⊎◌, inl, inr, Option, Some, None, IfSome, IfNone}
use Rattle.mtune_core.specs.declared.outcome.Fault.{Fault}
use Rattle.mtune_core.specs.Status.{status_of, status_if}

pub by_fault : (fault : Option Fault) (status : ℕ) (A B : Type 0) (R : Fault → Type 0) → status ≡ status_if fault → IfNone fault A → IfSome fault R
    → ((status ≡ 0) × A) ⊎ (((e : Fault) × (status ≡ status_of e) × R e) ⊎ B)
by_fault None status A B R is done refused = inl (is, done)
by_fault (Some e) status A B R is done refused = inr (inl (e, is, refused))
