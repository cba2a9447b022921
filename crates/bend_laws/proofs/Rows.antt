-- The used row of a port: channels of parts, in ascending order.
use Rattle.std.proofs.Common.{◌≡◌, ◌<◌, ◌≤◌, ◌+◌, ℕ, zero, suc, Bool, true, false, ◌&&◌, List, [], ◌∷◌, refl, ap, sym, subst, filter, take, length, get_or, nat_eq, arith, inl, inr}
use Rattle.std.specs.List.{AllByRecursion}
use Rattle.std.specs.Set.{is_member}
use Rattle.std.proofs.lemmas.Bool.{both_ways, or_cases, or_left, or_right, eq-eqb, eqb-true, and_parts, cond_both}
use Rattle.std.proofs.lemmas.List.{length-take-le}
use Rattle.retune_model.specs.Options.{Options, ByBend}
use Rattle.retune_model.specs.Faults.{is_part}
use Rattle.retune_model.specs.Dump.{from_up}
use Rattle.channel_model.specs.Rows.{allowed_row, used_row}
use Rattle.bend_laws.specs.Follows.{AreUsed}
use Rattle.bend_laws.specs.Bent.{uses}

-- ---- ascending lists

-- each is at least the number before it
abbrev Rise : ℕ → List ℕ → Type 0
Rise a [] = Unit {0}
Rise a (c ∷ cs) = (a ≤ c) × Rise (suc c) cs

rise_lower : (a b : ℕ) (cs : List ℕ) → b ≤ a → Rise a cs → Rise b cs
rise_lower a b [] l h = tt
rise_lower a b (c ∷ cs) l h = ((let g : a ≤ c = h.0 in omega (arith, l, g)), h.1)

up_rises : (a n : ℕ) → Rise a (from_up a n)
up_rises a zero = tt
up_rises a (suc n) = (omega arith, rise_lower (a + 1) (suc a) (from_up (a + 1) n) (omega arith) (up_rises (a + 1) n))

filter_rises : (f : ℕ → Bool) (a : ℕ) (cs : List ℕ) → Rise a cs → Rise a (filter f cs)
filter_rises f a [] h = tt
filter_rises f a (c ∷ cs) h = cond_both (f c) (c ∷ filter f cs) (filter f cs) (Rise a) (λ e. (h.0, filter_rises f (suc c) cs h.1))
    (λ e. rise_lower (suc c) a (filter f cs) (let g : a ≤ c = h.0 in omega (arith, g)) (filter_rises f (suc c) cs h.1))

take_rises : (n a : ℕ) (cs : List ℕ) → Rise a cs → Rise a (take n cs)
take_rises zero a cs h = tt
take_rises (suc n) a [] h = tt
take_rises (suc n) a (c ∷ cs) h = (h.0, take_rises n (suc c) cs h.1)

all_above : (a : ℕ) (cs : List ℕ) → Rise a cs → AllByRecursion (λ c. a ≤ c) cs
all_above a [] h = tt
all_above a (c ∷ cs) h = (h.0, all_above a cs (rise_lower (suc c) a cs (let g : a ≤ c = h.0 in omega (arith, g)) h.1))

-- ---- what holds of each

up_below : (a n m : ℕ) → a + n ≤ m → AllByRecursion (λ c. c < m) (from_up a n)
up_below a zero m h = tt
up_below a (suc n) m h = let g : a + suc n ≤ m = h in (omega (arith, g), up_below (a + 1) n m (omega (arith, g)))

filter_all : (P : ℕ → Type 0) (f : ℕ → Bool) (cs : List ℕ) → AllByRecursion P cs → AllByRecursion (λ c. P c × (f c ≡ true)) (filter f cs)
filter_all P f [] h = tt
filter_all P f (c ∷ cs) h = cond_both (f c) (c ∷ filter f cs) (filter f cs) (AllByRecursion (λ d. P d × (f d ≡ true)))
    (λ e. ((h.0, e), filter_all P f cs h.1)) (λ e. filter_all P f cs h.1)

take_all : (P : ℕ → Type 0) (n : ℕ) (cs : List ℕ) → AllByRecursion P cs → AllByRecursion P (take n cs)
take_all P zero cs h = tt
take_all P (suc n) [] h = tt
take_all P (suc n) (c ∷ cs) h = (h.0, take_all P n cs h.1)

member_all : (P : ℕ → Type 0) (cs : List ℕ) (c : ℕ) → AllByRecursion P cs → is_member nat_eq cs c ≡ true → P c
member_all P [] c h m = absurd (both_ways false refl m)
member_all P (d ∷ ds) c h m = elim (or_cases (nat_eq c d) (is_member nat_eq ds c) m) [
  | inl e ↦ subst P (sym (eqb-true c d e)) h.0
  | inr e ↦ member_all P ds c h.1 e
]

-- ---- places

at_index : (P : ℕ → Type 0) (cs : List ℕ) (i : ℕ) → AllByRecursion P cs → i < length cs → P (get_or cs i 0)
at_index P [] i h l = absurd (omega (arith, l))
at_index P (c ∷ cs) zero h l = h.0
at_index P (c ∷ cs) (suc i) h l = at_index P cs i h.1 (omega (arith, l))

index_member : (cs : List ℕ) (i : ℕ) → i < length cs → is_member nat_eq cs (get_or cs i 0) ≡ true
index_member [] i l = absurd (omega (arith, l))
index_member (c ∷ cs) zero l = or_left (nat_eq c c) (is_member nat_eq cs c) (eq-eqb c c refl)
index_member (c ∷ cs) (suc i) l = or_right (nat_eq (get_or cs i 0) c) (is_member nat_eq cs (get_or cs i 0)) (index_member cs i (omega (arith, l)))

index_apart : (a : ℕ) (cs : List ℕ) → Rise a cs → (i j : ℕ) → i < length cs → j < length cs → get_or cs i 0 ≡ get_or cs j 0 → i ≡ j
index_apart a [] h i j l m e = absurd (omega (arith, l))
index_apart a (c ∷ cs) h zero zero l m e = refl
index_apart a (c ∷ cs) h zero (suc j) l m e =
    absurd (let g : suc c ≤ get_or cs j 0 = at_index (λ d. suc c ≤ d) cs j (all_above (suc c) cs h.1)
    (omega (arith, m)) in let f : c ≡ get_or cs j 0 = e in omega (arith, g, f))
index_apart a (c ∷ cs) h (suc i) zero l m e =
    absurd (let g : suc c ≤ get_or cs i 0 = at_index (λ d. suc c ≤ d) cs i (all_above (suc c) cs h.1)
    (omega (arith, l)) in let f : get_or cs i 0 ≡ c = e in omega (arith, g, f))
index_apart a (c ∷ cs) h (suc i) (suc j) l m e = ap suc (index_apart (suc c) cs h.1 i j (omega (arith, l)) (omega (arith, m)) e)

-- ---- the row

row_rises : (o : Options) (allowed : ℕ → Bool) (n : ℕ) → Rise 0 (used_row o allowed n)
row_rises o allowed n = take_rises n 0 (allowed_row o allowed) (filter_rises (λ c. allowed c && is_part o c) 0 (from_up 0 16) (up_rises 0 16))

row_all : (o : Options) (allowed : ℕ → Bool) (n : ℕ) → AllByRecursion (λ c. (c < 16) × ((allowed c && is_part o c) ≡ true)) (used_row o allowed n)
row_all o allowed n =
    take_all (λ c. (c < 16) × ((allowed c && is_part o c) ≡ true)) n (allowed_row o allowed)
    (filter_all (λ c. c < 16) (λ c. allowed c && is_part o c) (from_up 0 16) (up_below 0 16 16 (omega arith)))

pub row_used : (o : Options) (allowed : ℕ → Bool) (n : ℕ) → o.route ≡ ByBend → AreUsed o (uses o allowed n)
row_used o allowed n route = record {
  route = route;
  channel = λ c u. (member_all (λ d. (d < 16) × ((allowed d && is_part o d) ≡ true)) (used_row o allowed n) c (row_all o allowed n) u).0;
  retuned = λ c u. (and_parts (allowed c) (is_part o c) (member_all (λ d. (d < 16) × ((allowed d && is_part o d) ≡ true))
      (used_row o allowed n) c (row_all o allowed n) u).1).1;
}

row_length : (o : Options) (allowed : ℕ → Bool) (n : ℕ) → n ≤ length (allowed_row o allowed) → length (used_row o allowed n) ≡ n
row_length o allowed n h = length-take-le n (allowed_row o allowed) h

pub lane_used : (o : Options) (allowed : ℕ → Bool) (n : ℕ) → n ≤ length (allowed_row o allowed) → (i : ℕ) → i < n →
    uses o allowed n (get_or (used_row o allowed n) i 0) ≡ true
lane_used o allowed n h i l = index_member (used_row o allowed n) i (subst (λ m. i < m) (sym (row_length o allowed n h)) l)

pub lane_apart : (o : Options) (allowed : ℕ → Bool) (n : ℕ) → n ≤ length (allowed_row o allowed) → (i j : ℕ) → i < n → j < n →
    get_or (used_row o allowed n) i 0 ≡ get_or (used_row o allowed n) j 0 → i ≡ j
lane_apart o allowed n h i j l m e =
    index_apart 0 (used_row o allowed n) (row_rises o allowed n) i j (subst (λ k. i < k) (sym (row_length o allowed n h)) l)
    (subst (λ k. j < k) (sym (row_length o allowed n h)) m) e
