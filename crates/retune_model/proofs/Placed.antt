-- The assignment of the notes that the rule's places give: valid, and of exactly the size Need. And why too few channels refuse.
use Rattle.std.proofs.Common.{◌≡◌, ℕ, ◌+◌, ◌<◌, ◌≤◌, Bool, true, List, length, map, take, sym, ap, ◌∙◌, arith, nat_eq, inl, inr, suc, zero, length-take-le}
use Rattle.std.specs.Bool.{Decides}
use Rattle.std.specs.List.{IsDistinct, AllByRecursion, range_with_len}
use Rattle.std.specs.Set.{is_member, unique_keys}
use Rattle.std.proofs.lemmas.Bool.{cases_lt, cond-true}
use Rattle.std.proofs.lemmas.Bool.Decides.{Decides-eqb}
use Rattle.std.proofs.lemmas.Map.Steps.{length-le_from_distinct_below}
use Rattle.retune_model.specs.Need.{IsNeed, ArePairs, IsValid, channels_used}
use Rattle.retune_model.specs.Runs.{since, OneBegins, TakesFree, HoldUnbroken, place_of_note}
use Rattle.retune_model.proofs.Lists.{distinct_unique, unique_member, member_has, distinct_take}
use Rattle.retune_model.proofs.Fewest.{fewest}
use Rattle.retune_model.proofs.Places.{sound}

-- what is there without a gap from b to k belongs at k to the run that it belongs to at b
pub since_stays : {K : Type 0} (eq : K → K → Bool) (at : ℕ → List K) (p : K) (b k : ℕ) → b ≤ k → ((j : ℕ) → b ≤ j → j ≤ k → is_member eq (at j) p ≡ true) → since eq at p k ≡ since eq at p b
since_stays eq at p b zero low there = let e : 0 ≡ b = omega arith in ap (since eq at p) e
since_stays eq at p b (suc k) low there = elim (cases_lt k b) [
  | inl l ↦ let e : suc k ≡ b = omega arith in ap (since eq at p) e
  | inr l ↦ cond-true (is_member eq (at k) p) (since eq at p k) (suc k) (there k l (omega arith)) ∙ since_stays eq at p b k l (λ j from to. there j from (omega arith))
]

-- while a note holds, its pair belongs to one run
note_run : {K : Type 0} (eq : K → K → Bool) (holds : ℕ → ℕ → Bool) (pair : ℕ → K) (notes : ℕ) (at : ℕ → List K) (last : ℕ) (from : ℕ → ℕ) →
    ArePairs eq holds pair notes at last → HoldUnbroken holds from notes last → (k i : ℕ) → k ≤ last → i < notes → holds k i ≡ true → since eq at (pair i) k ≡ since eq at (pair i) (from i)
note_run eq holds pair notes at last from pairs unbroken k i low l h =
    since_stays eq at (pair i) (from i) k (unbroken.not_before k i l h) (λ j b t. pairs.all j i (omega arith) l (unbroken.no_gap j k i l h b t))

pub notes_valid : {K : Type 0} (eq : K → K → Bool) (holds : ℕ → ℕ → Bool) (pair : ℕ → K) (notes : ℕ) (at : ℕ → List K) (last n : ℕ) (from row : ℕ → ℕ) →
    ArePairs eq holds pair notes at last → HoldUnbroken holds from notes last → OneBegins eq at last → TakesFree eq at last n row →
    IsValid holds pair notes last (place_of_note eq at row pair from)
notes_valid eq holds pair notes at last n from row pairs unbroken one takes = record {
  one_pair = λ k i j low li lj hi hj e.
      (sound eq at last n row one takes k low).apart (pair i) (pair j) (pairs.all k i low li hi) (pairs.all k j low lj hj)
      (ap row (note_run eq holds pair notes at last from pairs unbroken k i low li hi) ∙ e ∙ sym (ap row (note_run eq holds pair notes at last from pairs unbroken k j low lj hj)));
}

all_range : (P : ℕ → Type 0) (f : ℕ → ℕ) (m : ℕ) → ((i : ℕ) → i < m → P (f i)) → (a n : ℕ) → a + n ≤ m → AllByRecursion P (map f (range_with_len a n))
all_range P f m h a zero l = tt
all_range P f m h a (suc n) l = (h a (omega arith), all_range P f m h (a + 1) n (omega arith))

pub notes_below : {K : Type 0} (eq : K → K → Bool) (holds : ℕ → ℕ → Bool) (pair : ℕ → K) (notes : ℕ) (at : ℕ → List K) (last n : ℕ) (from row : ℕ → ℕ) →
    ArePairs eq holds pair notes at last → HoldUnbroken holds from notes last → OneBegins eq at last → TakesFree eq at last n row →
    (i : ℕ) → i < notes → place_of_note eq at row pair from i < n
notes_below eq holds pair notes at last n from row pairs unbroken one takes i l =
    let s = unbroken.some i l in
    (sound eq at last n row one takes (from i) s.0).below (pair i) (pairs.all (from i) i s.0 l s.1)

-- it has exactly Need channels
pub notes_use : {K : Type 0} (eq : K → K → Bool) → ((a b : K) → Decides (eq a b) (a ≡ b)) → (holds : ℕ → ℕ → Bool) (pair : ℕ → K) (notes : ℕ) (at : ℕ → List K) (last n instant : ℕ) (from row : ℕ → ℕ) →
    ArePairs eq holds pair notes at last → IsNeed at last n instant → HoldUnbroken holds from notes last → OneBegins eq at last → TakesFree eq at last n row →
    channels_used (place_of_note eq at row pair from) notes ≡ n
notes_use {K} eq same holds pair notes at last n instant from row pairs need unbroken one takes =
    let channel : ℕ → ℕ = place_of_note eq at row pair from in
    let all : List ℕ = map channel (range_with_len 0 notes) in
    let enough : length (at instant) ≤ channels_used channel notes = fewest eq same holds pair notes at last pairs channel (notes_valid eq holds pair notes at last n from row pairs unbroken one takes) instant need.in_time in
    let few : length (unique_keys nat_eq all) ≤ n = length-le_from_distinct_below (unique_keys nat_eq all) n (distinct_unique nat_eq all)
    (λ q m. member_has nat_eq Decides-eqb (λ x. x < n) all q (all_range (λ x. x < n) channel notes (notes_below eq holds pair notes at last n from row pairs unbroken one takes) 0 notes (omega arith)) (unique_member nat_eq all q m)) in
    let reached : length (at instant) ≡ n = need.reached in
    omega (arith, enough, few, reached)

-- ---- refusal: where Need exceeds what is allowed, the first allowed + 1 pairs of the instant are so many, differ, and no valid assignment is as small as what is allowed
pub refused_count : {K : Type 0} (at : ℕ → List K) (last n instant allowed : ℕ) → IsNeed at last n instant → allowed < n → length (take (allowed + 1) (at instant)) ≡ allowed + 1
refused_count at last n instant allowed need less = let reached : length (at instant) ≡ n = need.reached in length-take-le (allowed + 1) (at instant) (omega (arith, reached))

pub refused_differ : {K : Type 0} (eq : K → K → Bool) (at : ℕ → List K) (instant allowed : ℕ) → IsDistinct eq (at instant) → IsDistinct eq (take (allowed + 1) (at instant))
refused_differ eq at instant allowed once = distinct_take eq (allowed + 1) (at instant) once

pub refused_none : {K : Type 0} (eq : K → K → Bool) → ((a b : K) → Decides (eq a b) (a ≡ b)) → (holds : ℕ → ℕ → Bool) (pair : ℕ → K) (notes : ℕ) (at : ℕ → List K) (last n instant allowed : ℕ) →
    ArePairs eq holds pair notes at last → IsNeed at last n instant → allowed < n → (channel : ℕ → ℕ) → IsValid holds pair notes last channel → allowed < channels_used channel notes
refused_none eq same holds pair notes at last n instant allowed pairs need less channel valid =
    let many : length (at instant) ≤ channels_used channel notes = fewest eq same holds pair notes at last pairs channel valid instant need.in_time in
    let reached : length (at instant) ≡ n = need.reached in
    omega (arith, many, reached, less)

-- ---- Need and the instant are determined
pub one_need : {K : Type 0} (at : ℕ → List K) (last n m i j : ℕ) → IsNeed at last n i → IsNeed at last m j → (n ≡ m) × (i ≡ j)
one_need at last n m i j a b =
    let ai : length (at i) ≡ n = a.reached in
    let bj : length (at j) ≡ m = b.reached in
    let aj : length (at j) ≤ n = a.most j b.in_time in
    let bi : length (at i) ≤ m = b.most i a.in_time in
    let same : n ≡ m = omega (arith, ai, bj, aj, bi) in (
      same,
      elim (cases_lt i j) [
        | inl l ↦ absurd (let f : length (at i) < m = b.first i l in omega (arith, f, ai, same))
        | inr l ↦ elim (cases_lt j i) [
          | inl g ↦ absurd (let f : length (at j) < n = a.first j g in omega (arith, f, bj, same))
          | inr g ↦ omega arith
        ]
      ],
    )
