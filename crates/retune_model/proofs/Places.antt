-- The rule that gives each run a free channel: it never runs out, its assignment is valid, and it uses all of the first Need.
use Rattle.std.proofs.Common.{◌≡◌, ℕ, ◌<◌, ◌≤◌, Bool, true, false, not, ◌&&◌, List, length, map, sym, ap, ◌∙◌, subst, arith, nat_eq, inl, inr, suc, zero}
use Rattle.std.specs.Bool.{Decides}
use Rattle.std.specs.List.{IsDistinct, AllByRecursion, filter}
use Rattle.std.specs.Set.{is_member}
use Rattle.std.proofs.lemmas.Bool.{cases_Bool, both_ways, cond-true, cond-false, and_from, and_parts, not_from_false, not-true, cases_lt}
use Rattle.std.proofs.lemmas.List.{length-map}
use Rattle.std.proofs.lemmas.Map.Made.{is_member-filter}
use Rattle.retune_model.specs.Need.{IsNeed}
use Rattle.retune_model.specs.Runs.{since, begins, OneBegins, IsFree, TakesFree, TakesLowest}
use Rattle.retune_model.proofs.Lists.{test_equiv, all_from_members, distinct_map, member_map, member_map_back, filter_lt, least_missing, full_has, map_itself, all_map}

since_kept : {K : Type 0} (eq : K → K → Bool) (at : ℕ → List K) (p : K) (k : ℕ) → is_member eq (at k) p ≡ true → since eq at p (suc k) ≡ since eq at p k
since_kept eq at p k h = cond-true (is_member eq (at k) p) (since eq at p k) (suc k) h

since_new : {K : Type 0} (eq : K → K → Bool) (at : ℕ → List K) (p : K) (k : ℕ) → is_member eq (at k) p ≡ false → since eq at p (suc k) ≡ suc k
since_new eq at p k h = cond-false (is_member eq (at k) p) (since eq at p k) (suc k) h

begins_from : {K : Type 0} (eq : K → K → Bool) (at : ℕ → List K) (p : K) (k : ℕ) → is_member eq (at (suc k)) p ≡ true → is_member eq (at k) p ≡ false → begins eq at k p ≡ true
begins_from eq at p k h g = and_from (is_member eq (at (suc k)) p) (not (is_member eq (at k) p)) h (not_from_false (is_member eq (at k) p) g)

-- ---- the rule's places: below n, and no two runs of one position on one place
pub record IsSound {K : Type 0} (eq : K → K → Bool) (at : ℕ → List K) (n : ℕ) (row : ℕ → ℕ) (k : ℕ) : Type 0 where
  pub below : (p : K) → is_member eq (at k) p ≡ true → row (since eq at p k) < n
  pub apart : (p q : K) → is_member eq (at k) p ≡ true → is_member eq (at k) q ≡ true → row (since eq at p k) ≡ row (since eq at q k) → p ≡ q

pub sound : {K : Type 0} (eq : K → K → Bool) (at : ℕ → List K) (last n : ℕ) (row : ℕ → ℕ) → OneBegins eq at last → TakesFree eq at last n row → (k : ℕ) → k ≤ last → IsSound eq at n row k
sound {K} eq at last n row one takes zero low =
    let nobody : (p : K) → is_member eq (at 0) p ≡ false = λ p. ap (λ xs. is_member eq xs p) one.none in
    record { below = λ p m. absurd (both_ways (is_member eq (at 0) p) (nobody p) m); apart = λ p q m _ _. absurd (both_ways (is_member eq (at 0) p) (nobody p) m) }
sound {K} eq at last n row one takes (suc k) low =
    let before : IsSound eq at n row k = sound eq at last n row one takes k (omega arith) in
    let l : k < last = omega arith in
    record {
      below = λ p m. elim (cases_Bool (is_member eq (at k) p)) [
        | inl h ↦ rw (since_kept eq at p k h) (before.below p h)
        | inr h ↦ rw (since_new eq at p k h) (takes.within k p l (begins_from eq at p k m h))
      ];
      apart = λ p q m o e. elim (cases_Bool (is_member eq (at k) p)) [
        | inl h ↦ elim (cases_Bool (is_member eq (at k) q)) [
          | inl g ↦ before.apart p q h g (ap row (sym (since_kept eq at p k h)) ∙ e ∙ ap row (since_kept eq at q k g))
          | inr g ↦ absurd (takes.free k q l (begins_from eq at q k o g) p m h (ap row (sym (since_kept eq at p k h)) ∙ e ∙ ap row (since_new eq at q k g)))
        ]
        | inr h ↦ elim (cases_Bool (is_member eq (at k) q)) [
          | inl g ↦ absurd (takes.free k p l (begins_from eq at p k m h) q o g (ap row (sym (since_kept eq at q k g)) ∙ sym e ∙ ap row (since_new eq at p k h)))
          | inr g ↦ one.one k p q l (begins_from eq at p k m h) (begins_from eq at q k o g)
        ]
      ];
    }

-- ---- the rule never runs out: where a run begins and no more than n are there, one of the first n places is free, and there is a lowest
pub room : {K : Type 0} (eq : K → K → Bool) → ((a b : K) → Decides (eq a b) (a ≡ b)) → (at : ℕ → List K) (n : ℕ) (row : ℕ → ℕ) (k : ℕ) (p : K) →
    begins eq at k p ≡ true → length (at (suc k)) ≤ n →
    (c : ℕ) × (c < n) × IsFree eq at row k c ×
    ((b : ℕ) → b < c → (q : K) × (is_member eq (at (suc k)) q ≡ true) × (is_member eq (at k) q ≡ true) × (row (since eq at q k) ≡ b))
room {K} eq same at n row k p new few =
    let parts = and_parts (is_member eq (at (suc k)) p) (not (is_member eq (at k) p)) new in
    let kept : List K = filter (is_member eq (at k)) (at (suc k)) in
    let f : K → ℕ = λ q. row (since eq at q k) in
    let is_kept : (q : K) → is_member eq kept q ≡ (is_member eq (at (suc k)) q && is_member eq (at k) q) =
    λ q. is_member-filter (test_equiv eq same) (is_member eq (at k)) q (λ x e. ap (is_member eq (at k)) ((same q x).0 e)) (at (suc k)) in
    let fewer : length kept < length (at (suc k)) = filter_lt eq same (is_member eq (at k)) (at (suc k)) p parts.0 (not-true (is_member eq (at k) p) parts.1) in
    let same_length : length (map f kept) ≡ length kept = length-map kept f in
    let found = least_missing (map f kept) n (omega (arith, fewer, same_length)) in (
      found.0,
      found.1,
      (λ q m h e. both_ways (is_member nat_eq (map f kept) found.0) found.2
          (subst (λ (c : ℕ). is_member nat_eq (map f kept) c ≡ true) e (member_map eq same f kept q (is_kept q ∙ and_from (is_member eq (at (suc k)) q) (is_member eq (at k) q) m h)))),
      (λ b low.
          let back = member_map_back eq same f kept b (found.3 b low) in
          let two = and_parts (is_member eq (at (suc k)) back.0) (is_member eq (at k) back.0) (sym (is_kept back.0) ∙ back.1) in
          (back.0, two.0, two.1, back.2)),
    )

-- the lowest free place is one of the first n, though the rule does not look at n
pub lowest_takes_free : {K : Type 0} (eq : K → K → Bool) → ((a b : K) → Decides (eq a b) (a ≡ b)) → (at : ℕ → List K) (last n : ℕ) (row : ℕ → ℕ) →
    ((k : ℕ) → k ≤ last → length (at k) ≤ n) → TakesLowest eq at last row → TakesFree eq at last n row
lowest_takes_free eq same at last n row few takes = record {
  within = λ k p l new.
      let r = room eq same at n row k p new (few (suc k) (omega arith)) in
      let c_low : r.0 < n = r.1 in
      elim (cases_lt r.0 (row (suc k))) [
        | inl above ↦ let q = takes.lowest k p r.0 l new above in absurd (r.2 q.0 q.1 q.2 q.3)
        | inr low ↦ omega (arith, c_low, low)
      ];
  free = takes.free;
}

-- ---- at the instant all of the first Need places are in use
pub all_used : {K : Type 0} (eq : K → K → Bool) → ((a b : K) → Decides (eq a b) (a ≡ b)) → (at : ℕ → List K) (last n instant : ℕ) (row : ℕ → ℕ) →
    IsNeed at last n instant → IsDistinct eq (at instant) → OneBegins eq at last → TakesFree eq at last n row →
    (c : ℕ) → c < n → (p : K) × (is_member eq (at instant) p ≡ true) × (row (since eq at p instant) ≡ c)
all_used {K} eq same at last n instant row need once one takes c low =
    let good : IsSound eq at n row instant = sound eq at last n row one takes instant need.in_time in
    let f : K → ℕ = λ p. row (since eq at p instant) in
    let Here : K → Type 0 = λ p. is_member eq (at instant) p ≡ true in
    let here : AllByRecursion Here (at instant) = all_from_members eq same Here (at instant) (λ p m. m) in
    let apart : IsDistinct nat_eq (map f (at instant)) = distinct_map eq same Here f (λ p. p) (λ p q m o e. good.apart p q m o e) (at instant) here (subst (λ (xs : List K). IsDistinct eq xs) (sym (map_itself (at instant))) once) in
    let low_all : AllByRecursion (λ x. x < n) (map f (at instant)) = all_map (λ x. x < n) f Here (λ p m. good.below p m) (at instant) here in
    member_map_back eq same f (at instant) c (full_has (map f (at instant)) n apart low_all (length-map (at instant) f ∙ need.reached) c low)
