-- What was put of a text that is put piece by piece.
use Rattle.std.proofs.Common.{◌≡◌, ℕ, List, [], ◌++◌, refl, ap, sym, ◌∙◌, append_assoc, append-nil}
use Rattle.std.specs.Prelude.{Result, Ok, Err, OnErr}
use Rattle.plan_report.specs.Told.{IsFront}

-- nothing
pub nothing : (old text new : List ℕ) → new ≡ old → IsFront old text new
nothing old text new same = record { front = []; rest = text; split = refl; put = same ∙ sym (append-nil old) }

-- a front of the first piece
pub in_first : (old a b new : List ℕ) → IsFront old a new → IsFront old (a ++ b) new
in_first old a b new f =
    record { front = f.front; rest = f.rest ++ b; split = ap (λ x. x ++ b) f.split ∙ append_assoc f.front f.rest b; put = f.put }

-- the first piece, and a front of the second
pub in_second : (old a b between new : List ℕ) → between ≡ old ++ a → IsFront between b new → IsFront old (a ++ b) new
in_second old a b between new whole f = record {
  front = a ++ f.front;
  rest = f.rest;
  split = ap (λ x. a ++ x) f.split ∙ sym (append_assoc a f.front f.rest);
  put = f.put ∙ ap (λ x. x ++ f.front) whole ∙ append_assoc old a f.front;
}

-- both
pub both : (old a b between new : List ℕ) → between ≡ old ++ a → new ≡ between ++ b → new ≡ old ++ (a ++ b)
both old a b between new whole rest = rest ∙ ap (λ x. x ++ b) whole ∙ append_assoc old a b

-- ---- said of an error

pub on_error : {T E : Type 0} (r : Result T E) (P : Type 0) → P → OnErr r P
on_error (Ok x) P p = tt
on_error (Err e) P p = p

pub on_each_error : {T E : Type 0} (r : Result T E) (P Q : Type 0) → (P → Q) → OnErr r P → OnErr r Q
on_each_error (Ok x) P Q h p = tt
on_each_error (Err e) P Q h p = h p

-- behind the whole first piece
pub behind : {T E : Type 0} (r : Result T E) (old a b between new : List ℕ) → between ≡ old ++ a → OnErr r (IsFront between b new)
    → OnErr r (IsFront old (a ++ b) new)
behind r old a b between new whole front =
    on_each_error r (IsFront between b new) (IsFront old (a ++ b) new) (in_second old a b between new whole) front
