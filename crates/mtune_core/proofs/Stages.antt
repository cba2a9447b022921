-- From a content that was loaded to what is made of it, or to the cause of a fault.
use Rattle.std.proofs.Common.{◌≡◌, ◌≤◌, ℕ, List, length, Result, Ok, Err, sym, subst, inr}
use Rattle.std.specs.Prelude.{IfOk, IfErr, IsErrAnd}
use Rattle.mtune_files.specs.Outside.{Outside, IsHeld, after_load}
use Rattle.mtune_files.specs.declared.which.Which.{Which}
use Rattle.mtune_core.specs.declared.outcome.Fault.{Fault}
use Rattle.mtune_core.specs.Contents.{At, ContentCause}

-- a fault that is handed on
pub handed_on : {T : Type 0} (r : Result T Fault) (e : Fault) (P : Fault → Type 0) → IsErrAnd r (λ y. y ≡ e) → P e → IfErr r P
handed_on (Ok x) e P h p = absurd h
handed_on (Err y) e P h p = subst P (sym h) p

-- what is made of a content that was loaded
pub made_at : {T : Type 0} (r : Result T Fault) (o : Outside) (name bytes seen : List ℕ) (limit : ℕ) (P : T → List ℕ → Type 0)
    → IsHeld o name bytes → length bytes ≤ limit → seen ≡ bytes → IfOk r (λ x. P x seen) → IfOk r (λ x. At o name limit (P x))
made_at (Ok x) o name bytes seen limit P held short same h = (record { bytes = bytes; held = held; short = short }, subst (P x) same h)
made_at (Err e) o name bytes seen limit P held short same h = tt

-- a fault of a content that was loaded
pub fault_at : (o now : Outside) (which : Which) (name bytes seen : List ℕ) (limit : ℕ) (IsFault : List ℕ → Fault → Type 0) (e : Fault)
    → IsHeld o name bytes → length bytes ≤ limit → seen ≡ bytes → now ≡ after_load which o → IsFault seen e
    → ContentCause which name limit IsFault o now e
fault_at o now which name bytes seen limit IsFault e held short same loaded h =
    inr ((record { bytes = bytes; held = held; short = short }, subst (λ b. IsFault b e) same h), loaded)

pub faults_at : {T : Type 0} (r : Result T Fault) (o now : Outside) (which : Which) (name bytes seen : List ℕ) (limit : ℕ)
    (IsFault : List ℕ → Fault → Type 0)
    → IsHeld o name bytes → length bytes ≤ limit → seen ≡ bytes → now ≡ after_load which o → IfErr r (λ e. IsFault seen e)
    → IfErr r (λ e. ContentCause which name limit IsFault o now e)
faults_at (Ok x) o now which name bytes seen limit IsFault held short same loaded h = tt
faults_at (Err e) o now which name bytes seen limit IsFault held short same loaded h =
    fault_at o now which name bytes seen limit IsFault e held short same loaded h
