-- The places of runs, over any sequence of sets of pairs in which at most one run begins at a position.
use Rattle.std.proofs.Common.{◌≡◌, ◌<◌, ◌≤◌, ℕ, zero, suc, true, false, not, List, ap, sym, ◌∙◌, subst, arith, inl, inr}
use Rattle.std.specs.Set.{is_member}
use Rattle.std.proofs.lemmas.Bool.{cases_Bool, both_ways, cond-true, cond-false, and_from, not_from_false}
use Rattle.retune_model.specs.Pairs.{Pair, is_same_pair}
use Rattle.retune_model.specs.Runs.{since, begins, OneBegins, TakesFree}
use Rattle.bend_laws.specs.Follows.{Has}

pub since_kept : (at : ℕ → List Pair) (p : Pair) (k : ℕ) → Has (at k) p → since is_same_pair at p (suc k) ≡ since is_same_pair at p k
since_kept at p k h = cond-true (is_member is_same_pair (at k) p) (since is_same_pair at p k) (suc k) h

since_new : (at : ℕ → List Pair) (p : Pair) (k : ℕ) → is_member is_same_pair (at k) p ≡ false → since is_same_pair at p (suc k) ≡ suc k
since_new at p k h = cond-false (is_member is_same_pair (at k) p) (since is_same_pair at p k) (suc k) h

begins_new : (at : ℕ → List Pair) (p : Pair) (k : ℕ) → Has (at (suc k)) p → is_member is_same_pair (at k) p ≡ false →
    begins is_same_pair at k p ≡ true
begins_new at p k h g = and_from (is_member is_same_pair (at (suc k)) p)
    (not (is_member is_same_pair (at k) p)) h (not_from_false (is_member is_same_pair (at k) p) g)

pub record HasPlaces (at : ℕ → List Pair) (n : ℕ) (places : ℕ → ℕ) (k : ℕ) : Type 0 where
  pub below : (p : Pair) → Has (at k) p → places (since is_same_pair at p k) < n
  pub apart : (p q : Pair) → Has (at k) p → Has (at k) q → places (since is_same_pair at p k) ≡ places (since is_same_pair at q k) → p ≡ q

pub has_places : (at : ℕ → List Pair) (last n : ℕ) (places : ℕ → ℕ) → OneBegins is_same_pair at last → TakesFree is_same_pair at last n places →
    (k : ℕ) → k ≤ last → HasPlaces at n places k
has_places at last n places one takes zero low =
    let nobody : (p : Pair) → Has (at 0) p → ⊥ = λ p m. both_ways (is_member is_same_pair (at 0) p)
    (ap (λ xs. is_member is_same_pair xs p) one.none) m in
    record { below = λ p m. absurd (nobody p m); apart = λ p q m o e. absurd (nobody p m) }
has_places at last n places one takes (suc k) low =
    let before : HasPlaces at n places k = has_places at last n places one takes k (omega arith) in
    let l : k < last = omega arith in
    record {
      below = λ p m. elim (cases_Bool (is_member is_same_pair (at k) p)) [
        | inl h ↦ subst (λ j. places j < n) (sym (since_kept at p k h)) (before.below p h)
        | inr h ↦ subst (λ j. places j < n) (sym (since_new at p k h)) (takes.within k p l (begins_new at p k m h))
      ];
      apart = λ p q m o e. elim (cases_Bool (is_member is_same_pair (at k) p)) [
        | inl h ↦ elim (cases_Bool (is_member is_same_pair (at k) q)) [
          | inl g ↦ before.apart p q h g (ap places (sym (since_kept at p k h)) ∙ e ∙ ap places (since_kept at q k g))
          | inr g ↦ absurd (takes.free k q l (begins_new at q k o g) p m h (ap places (sym (since_kept at p k h)) ∙ e
              ∙ ap places (since_new at q k g)))
        ]
        | inr h ↦ elim (cases_Bool (is_member is_same_pair (at k) q)) [
          | inl g ↦ absurd (takes.free k p l (begins_new at p k m h) q o g (ap places (sym (since_kept at q k g)) ∙ sym e
              ∙ ap places (since_new at p k h)))
          | inr g ↦ one.one k p q l (begins_new at p k m h) (begins_new at q k o g)
        ]
      ];
    }
