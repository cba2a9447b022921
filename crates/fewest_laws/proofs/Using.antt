-- Runs that take any free place of a row of as many channels as are needed use the fewest.
use Rattle.std.proofs.Common.{◌≡◌, ◌<◌, ◌+◌, ℕ, zero, suc, List, [], ◌∷◌, Bool, true, false, nat_eq, refl, ap, sym, ◌∙◌, subst, length, map, get_or, arith, inl, inr}
use Rattle.std.specs.Cmp.{nat_eq_equiv}
use Rattle.std.specs.List.{IsDistinct, range_with_len}
use Rattle.std.specs.Set.{is_member, distinct_count}
use Rattle.std.proofs.lemmas.Bool.{cases_lt, or_cases, or_left, or_right, both_ways, eqb-true, eq-eqb}
use Rattle.std.proofs.lemmas.Map.Keys.{apart_from_distinct}
use Rattle.std.proofs.lemmas.Map.Made.{length-from_keys}
use Rattle.retune_model.specs.FaultLaws.{SoundPortsAreAimed}
use Rattle.retune_model.specs.NeedLaws.{Needs, NoneHasFewer, FreeOnesAreValid, AllAreUsed, PairsStandOnce}
use Rattle.retune_model.specs.Pairs.{Pair, is_same_pair}
use Rattle.retune_model.specs.PortNeed.{pairs_on, notes_on, place_on}
use Rattle.retune_model.specs.Ports.{of_port, port_at}
use Rattle.retune_model.specs.RestLaws.{PairsAreOfNotes, OneRunBegins, NotesHoldUnbroken}
use Rattle.retune_model.specs.Rests.{holds_at, pair_at, began_at}
use Rattle.retune_model.specs.Runs.{since}
use Rattle.retune_model.proofs.Placed.{since_stays, notes_below}
use Rattle.fewest_laws.specs.Using.{RunsUseFewest}

-- What it rests on, as contracts have it.
pub record UsingLaws : Type 0 where
  pub fewest : NoneHasFewer
  pub valid : FreeOnesAreValid
  pub all_used : AllAreUsed
  pub once : PairsStandOnce
  pub aimed : SoundPortsAreAimed
  pub pairs : PairsAreOfNotes
  pub one : OneRunBegins
  pub unbroken : NotesHoldUnbroken

-- ---- lists of numbers

-- what stands at a place is a member
pub at_place_member : (xs : List ℕ) (i : ℕ) → i < length xs → is_member nat_eq xs (get_or xs i 0) ≡ true
at_place_member [] i l = absurd (omega (arith, l))
at_place_member (x ∷ xs) zero l = or_left (nat_eq x x) (is_member nat_eq xs x) (eq-eqb x x refl)
at_place_member (x ∷ xs) (suc i) l =
    or_right (nat_eq (get_or xs i 0) x) (is_member nat_eq xs (get_or xs i 0)) (at_place_member xs i (omega (arith, l)))

-- a member stands at a place
pub record Stands (xs : List ℕ) (c : ℕ) : Type 0 where
  pub place : ℕ
  pub below : place < length xs
  pub is : get_or xs place 0 ≡ c

pub member_stands : (xs : List ℕ) (c : ℕ) → is_member nat_eq xs c ≡ true → Stands xs c
member_stands [] c h = absurd (both_ways false refl h)
member_stands (x ∷ xs) c h = elim (or_cases (nat_eq c x) (is_member nat_eq xs c) h) [
  | inl e ↦ (let is : c ≡ x = eqb-true c x e in record { place = 0; below = omega arith; is = sym is })
  | inr m ↦ (let s = member_stands xs c m in let b = s.below in record { place = suc s.place; below = omega (arith, b); is = s.is })
]

-- different numbers stand at different places
pub same_place : (xs : List ℕ) (i j : ℕ) → IsDistinct nat_eq xs → i < length xs → j < length xs → get_or xs i 0 ≡ get_or xs j 0 → i ≡ j
same_place xs i j apart a b e = elim (cases_lt i j) [
  | inl l ↦ absurd (both_ways (nat_eq (get_or xs i 0) (get_or xs j 0)) (apart_from_distinct nat_eq xs i j 0 apart l b)
      (eq-eqb (get_or xs i 0) (get_or xs j 0) e))
  | inr l ↦ elim (cases_lt j i) [
    | inl g ↦ absurd (both_ways (nat_eq (get_or xs j 0) (get_or xs i 0)) (apart_from_distinct nat_eq xs j i 0 apart g a)
        (eq-eqb (get_or xs j 0) (get_or xs i 0) (sym e)))
    | inr g ↦ omega (arith, l, g)
  ]
]

-- a list is what stands at its places
range_places : (xs ys : List ℕ) (a : ℕ) → ((i : ℕ) → i < length xs → get_or ys (a + i) 0 ≡ get_or xs i 0)
    → map (λ i. get_or ys i 0) (range_with_len a (length xs)) ≡ xs
range_places [] ys a h = refl
range_places (x ∷ xs) ys a h =
    ap (λ y. y ∷ map (λ i. get_or ys i 0) (range_with_len (a + 1) (length xs))) (ap (λ j. get_or ys j 0) (let e : a ≡ a + 0 = omega arith in e)
    ∙ h 0 (omega arith))
    ∙ ap (λ zs. x ∷ zs) (range_places xs ys (a + 1) (λ i l. ap (λ j. get_or ys j 0) (let e : a + 1 + i ≡ a + suc i = omega arith in e)
    ∙ h (suc i) (omega (arith, l))))

pub all_places : (xs : List ℕ) (n : ℕ) → length xs ≡ n → map (λ i. get_or xs i 0) (range_with_len 0 n) ≡ xs
all_places xs n is = ap (λ m. map (λ i. get_or xs i 0) (range_with_len 0 m)) (sym is)
    ∙ range_places xs xs 0 (λ i l. ap (λ j. get_or xs j 0) (let e : 0 + i ≡ i = omega arith in e))

from_both : (a b : Bool) → (a ≡ true → b ≡ true) → (b ≡ true → a ≡ true) → a ≡ b
from_both true b f g = sym (f refl)
from_both false true f g = g refl
from_both false false f g = refl

-- ---- the notes of a port

pub uses_fewest : UsingLaws → RunsUseFewest
uses_fewest laws o part table es z n instant row place channels parts sound need takes as_many apart all runs =
    let port = port_at es z in
    let last = length es in
    let notes = notes_on part es z in
    let at : ℕ → List Pair = pairs_on o part table es z in
    let holds : ℕ → ℕ → Bool = holds_at part o.tail port in
    let pair : ℕ → Pair = pair_at o part table port last in
    let from : ℕ → ℕ = began_at part (of_port z es) last in
    let aimed = laws.aimed o part table es z parts sound in
    let pairs = laws.pairs o part table port last aimed in
    let unbroken = laws.unbroken part o.tail port last aimed.timed in
    let needs : Needs o part table es z n instant = record { parts = parts; sound = sound; need = need } in
    let below : (i : ℕ) → i < notes → place_on o part table es z place i < length row =
    λ i l. (let b = notes_below is_same_pair holds pair notes at last n from place pairs unbroken (laws.one o part table port last aimed) takes i l in
    omega (arith, b, as_many)) in
    let valid = laws.valid o part table es z n place parts sound takes in
    let in_row : (c : ℕ) → is_member nat_eq channels c ≡ true → is_member nat_eq row c ≡ true =
    λ c m. (let s = member_stands channels c m in
    let b = s.below in
    let low : s.place < notes = omega (arith, b, all) in
    subst (λ x. is_member nat_eq row x ≡ true) (sym (runs s.place low) ∙ s.is)
    (at_place_member row (place_on o part table es z place s.place) (below s.place low))) in
    let in_use : (c : ℕ) → is_member nat_eq row c ≡ true → is_member nat_eq channels c ≡ true =
    λ c m. (let s = member_stands row c m in
    let b = s.below in
    let u = laws.all_used o part table es z n instant place needs takes s.place (omega (arith, b, as_many)) in
    let e = pairs.each instant u.0 need.in_time u.1 in
    let i = e.0 in
    let run : since is_same_pair at (pair i) instant ≡ since is_same_pair at (pair i) (from i) =
    since_stays is_same_pair at (pair i) (from i) instant (unbroken.not_before instant i e.1 e.2)
    (λ j lo hi. pairs.all j i (let t = need.in_time in omega (arith, hi, t)) e.1 (unbroken.no_gap j instant i e.1 e.2 lo hi)) in
    let here : place_on o part table es z place i ≡ s.place = ap place (sym run) ∙ ap (λ p. place (since is_same_pair at p instant)) e.3 ∙ u.2 in
    let l = e.1 in
    subst (λ x. is_member nat_eq channels x ≡ true) (runs i l ∙ ap (λ k. get_or row k 0) here ∙ s.is)
    (at_place_member channels i (omega (arith, l, all)))) in
    let used : (c : ℕ) → is_member nat_eq channels c ≡ is_member nat_eq row c =
    λ c. from_both (is_member nat_eq channels c) (is_member nat_eq row c) (in_row c) (in_use c) in
    record {
      is_need = need;
      pairs = laws.once o part table es z instant;
      as_many = as_many;
      apart = apart;
      all = all;
      used = used;
      valid = record {
        one_pair = λ k i j low li lj hi hj same.
            valid.one_pair k i j low li lj hi hj (same_place row (place_on o part table es z place i) (place_on o part table es z place j) apart
            (below i li) (below j lj) (sym (runs i li) ∙ same ∙ runs j lj));
      };
      size = ap (λ (xs : List ℕ). distinct_count nat_eq xs) (all_places channels notes all)
          ∙ sym (length-from_keys nat_eq_equiv row channels apart (λ q. sym (used q))) ∙ as_many;
      fewest = λ channel v. laws.fewest o part table es z n instant channel needs v;
    }
