-- What the definitions find of the pairs of a part that go too far, by a test of steps that tells which pairs are there.
use Rattle.std.proofs.Common.{◌≡◌, ◌≤◌, ◌<◌, ◌⊎◌, ◌∙◌, ◌+◌, ◌*◌, ◌/◌, ℕ, ℤ, pos, negsuc, neg_ℤ, ◌+ℤ◌, ◌-ℤ◌, ◌*ℤ◌, List, [], ◌∷◌, Bool, true, false, cond, ◌||◌, nat_le, Option, Some, None, refl, sym, ap, arith, inl, inr}
use Rattle.std.specs.Prelude.{◌≤ℤ◌}
use Rattle.std.specs.Int.{int_div_euclid}
use Rattle.std.specs.Set.{is_member}
use Rattle.std.proofs.lemmas.Int.{ints}
use Rattle.std.proofs.Math.Nat.{mul-le-mul_left, mul-le-mul_right, div-mul-le_self}
use Rattle.std.proofs.lemmas.Bool.{both_ways, or_cases, or_left, or_right, and_parts, eqb-true, ltb-true, lt-ltb, cases_lt}
use Rattle.midi_model.specs.Notes.{Note}
use Rattle.retune_model.specs.Table.{Bounds, BendTarget, with_steps, up_to, nearest_key, nearest_steps}
use Rattle.retune_model.specs.Options.{Options}
use Rattle.retune_model.specs.PlaysTheSame.{bend_target_if}
use Rattle.retune_model.specs.Ports.{PortEvents}
use Rattle.retune_model.specs.Faults.{Targets, is_part, is_within_bend, int_eq, target_of}
use Rattle.retune_model.specs.Pairs.{Pair, is_same_pair, is_before, with_pair, pair_if, pairs_of, int_lt}
use Rattle.retune_model.specs.Rests.{pairs_at}
use Rattle.retune_model.specs.SourceFaults.{first_beyond}
use Rattle.retune_model.specs.FaultLaws.{LeastIsKept, NoneIsBeyond}
use Rattle.lifetimes.specs.Due.{least_steps, IsFirstBeyond, NoneBeyond}
use Rattle.lifetimes.specs.Stands.{pair_on}
use Rattle.lifetimes.proofs.Beyond.{Has}
use Rattle.lifetimes.proofs.WithinBend.{cases_ltz}

-- ---- whole numbers

pub lt_int : (a b : ℤ) → int_lt a b ≡ false → b ≤ℤ a
lt_int (pos a) (pos b) h = elim (cases_ltz (pos a) (pos b)) [
  | inl l ↦ absurd
      (let t : int_lt (pos a) (pos b) ≡ true = lt-ltb a b (omega (arith, ints, l)) in both_ways (int_lt (pos a) (pos b)) h t)
  | inr l ↦ l
]
lt_int (pos a) (negsuc b) h = omega (arith, ints)
lt_int (negsuc a) (pos b) h = absurd cc
lt_int (negsuc a) (negsuc b) h = elim (cases_ltz (negsuc a) (negsuc b)) [
  | inl l ↦ absurd
      (let t : int_lt (negsuc a) (negsuc b)
      ≡ true = lt-ltb b a (omega (arith, ints, l)) in both_ways (int_lt (negsuc a) (negsuc b)) h t)
  | inr l ↦ l
]

-- ---- the steps of a pair are those of a target, which are within a bend's

quotient_low : (a d : ℕ) → 390625000 ≤ d → a ≤ 1600000000000 → a / d ≤ 4096
quotient_low a d more less =
    let p : (a / d) * 390625000 ≤ (a / d) * d = mul-le-mul_left (a / d) more in
    let q : (a / d) * d ≤ a = div-mul-le_self a d in
    omega (arith, p, q)

quotient_high : (a r : ℕ) → 1 ≤ r → a ≤ 1600000000000 + 195312500 * r → a / (390625000 * r) ≤ 4097
quotient_high a r some less = elim (cases_lt 4097 (a / (390625000 * r))) [
  | inl l ↦ absurd (let p : 4098 * (390625000 * r) ≤ (a / (390625000 * r)) * (390625000 * r) = mul-le-mul_right (390625000 * r)
      (let m : 4098 ≤ a / (390625000 * r) = omega (arith, l) in m) in
      let q : (a / (390625000 * r)) * (390625000 * r) ≤ a = div-mul-le_self a (390625000 * r) in
      omega (arith, p, q, some, less))
  | inr l ↦ l
]

steps_within : (y : ℤ) (r : ℕ) → 1 ≤ r → neg_ℤ (pos 1600000000000) ≤ℤ y → y ≤ℤ pos (1600000000000 + 195312500 * r)
    → is_within_bend (int_div_euclid y (pos (390625000 * r))) ≡ true
steps_within (pos a) r some low high = let q = quotient_high a r some (omega (arith, ints, high)) in lt-ltb (a / (390625000 * r)) 8192
    (omega (arith, q))
steps_within (negsuc a) r some low high = let q = quotient_low a (390625000 * r) (omega (arith, some)) (omega (arith, ints, low)) in lt-ltb
    (a / (390625000 * r)) 8192 (omega (arith, q))

-- a number and its nearest key
near_key : (z : ℤ) (k : ℕ) → int_div_euclid z (pos 3200000000000) ≡ pos k
    → (pos (k * 3200000000000) ≤ℤ z) × (z ≤ℤ pos (k * 3200000000000 + 3200000000000))
near_key (pos a) k e = (omega (arith, ints, e), omega (arith, ints, e))
near_key (negsuc a) k e = absurd (let no : ⊥ = omega (arith, ints, e) in no)

nearest_within : (range k : ℕ) (lo : ℤ) → 1 ≤ range → nearest_key lo ≡ pos k → is_within_bend (nearest_steps range lo) ≡ true
nearest_within range k lo some at =
    let near = near_key (lo +ℤ pos 1600000000000) k at in
    let low = near.0 in
    let high = near.1 in
    ap (λ n. is_within_bend (int_div_euclid ((lo -ℤ n *ℤ pos 3200000000000) +ℤ pos (195312500 * range)) (pos (390625000 * range)))) at
    ∙ steps_within ((lo -ℤ pos k *ℤ pos 3200000000000) +ℤ pos (195312500 * range)) range some (omega (arith, ints, low, high))
    (omega (arith, ints, low, high))

pub target_within : (range : ℕ) (b : Option Bounds) (t : BendTarget) → 1 ≤ range → bend_target_if range b ≡ Some t → is_within_bend t.steps ≡ true
target_within range None t some is = absurd cc
target_within range (Some b) t some is = pick (nearest_key b.lo) refl is
  where
    pick : (z : ℤ) → nearest_key b.lo ≡ z → with_steps (nearest_steps range b.lo) (up_to 127 z) ≡ Some t → is_within_bend t.steps ≡ true
    pick (negsuc n) at h = absurd cc
    pick (pos n) at h = choose (nat_le n 127) h
      where
        choose : (c : Bool) → with_steps (nearest_steps range b.lo) (cond c (Some n) None) ≡ Some t → is_within_bend t.steps ≡ true
        choose false g = absurd cc
        choose true g = let same : nearest_steps range b.lo ≡ t.steps = ap (λ x. steps_if x) g in ap is_within_bend (sym same)
            ∙ nearest_within range n b.lo some at
          where
            steps_if : Option BendTarget → ℤ
            steps_if (Some x) = x.steps
            steps_if None = t.steps

-- a pair that was put into a list is that pair, or was there
put_or_there : (q : Pair) (ps : List Pair) (p : Pair) → Has (with_pair q ps) p → (is_same_pair p q ≡ true) ⊎ Has ps p
put_or_there q [] p h = or_cases (is_same_pair p q) false h
put_or_there q (x ∷ xs) p h = pick (is_before q x) (is_same_pair q x) h (put_or_there q xs p)
  where
    pick : (a b : Bool) → Has (cond a (q ∷ x ∷ xs) (cond b (x ∷ xs) (x ∷ with_pair q xs))) p
        → (Has (with_pair q xs) p → (is_same_pair p q ≡ true) ⊎ Has xs p)
        → (is_same_pair p q ≡ true) ⊎ Has (x ∷ xs) p
    pick true b g later = or_cases (is_same_pair p q) (is_same_pair p x || is_member is_same_pair xs p) g
    pick false true g later = inr g
    pick false false g later = elim (or_cases (is_same_pair p x) (is_member is_same_pair (with_pair q xs) p) g) [
      | inl e ↦ inr (or_left (is_same_pair p x) (is_member is_same_pair xs p) e)
      | inr e ↦ elim (later e) [
        | inl f ↦ inl f
        | inr f ↦ inr (or_right (is_same_pair p x) (is_member is_same_pair xs p) f)
      ]
    ]

int_same : (a b : ℤ) → int_eq a b ≡ true → a ≡ b
int_same (pos a) (pos b) h = ap pos (eqb-true a b h)
int_same (pos a) (negsuc b) h = absurd cc
int_same (negsuc a) (pos b) h = absurd cc
int_same (negsuc a) (negsuc b) h = ap negsuc (eqb-true a b h)

pub pairs_within : (z : ℕ) (o : Options) (table : Targets) (ns : List Note) (p : Pair) → 1 ≤ o.range → Has (pairs_of z o table ns) p
    → is_within_bend p.steps ≡ true
pairs_within z o table [] p some h = absurd cc
pairs_within z o table (n ∷ ns) p some h = pick (target_of o table n) refl h (pairs_within z o table ns p some)
  where
    pick : (x : Option BendTarget) → target_of o table n ≡ x → Has (pair_if z n.channel x (pairs_of z o table ns)) p
        → (Has (pairs_of z o table ns) p → is_within_bend p.steps ≡ true) → is_within_bend p.steps ≡ true
    pick None is g later = later g
    pick (Some t) is g later = elim (put_or_there (record { part = record { port = z; channel = n.channel }; steps = t.steps })
        (pairs_of z o table ns) p g) [
          | inl e ↦ ap is_within_bend (int_same p.steps t.steps (and_parts _ _ e).1) ∙ target_within o.range (table n.key n.onset) t some is
          | inr e ↦ later e
        ]

in_range : (z : ℤ) → is_within_bend z ≡ true → least_steps ≤ℤ z
in_range (pos n) h = omega (arith, ints)
in_range (negsuc n) h = let l : n < 8192 = ltb-true n 8192 h in omega (arith, ints, l)

-- ---- what is found

-- `there` tells of each number of steps whether the pair of the part with these steps is there
pub record Tells (o : Options) (table : Targets) (port : PortEvents) (k c : ℕ) (there : ℤ → Bool) : Type 0 where
  pub tells : (q : ℤ) → is_member is_same_pair (pairs_at o (is_part o) table port k) (pair_on port.number c q) ≡ there q
  pub range : 1 ≤ o.range

pub found_is : LeastIsKept → NoneIsBeyond → (o : Options) (table : Targets) (port : PortEvents) (k c : ℕ) (there : ℤ → Bool) (r q : ℤ)
    → Tells o table port k c there → IsFirstBeyond there r q
    → first_beyond (record { port = port.number; channel = c }) r (pairs_at o (is_part o) table port k) ≡ Some (q, r)
found_is kept none o table port k c there r q t f = pick
    (first_beyond (record { port = port.number; channel = c }) r (pairs_at o (is_part o) table port k)) refl
  where
    here : Has (pairs_at o (is_part o) table port k) (pair_on port.number c q)
    here = t.tells q ∙ f.here

    pick : (x : Option (ℤ × ℤ)) → first_beyond (record { port = port.number; channel = c }) r (pairs_at o (is_part o) table port k) ≡ x
        → first_beyond (record { port = port.number; channel = c }) r (pairs_at o (is_part o) table port k) ≡ Some (q, r)
    pick None is = absurd (both_ways (is_within_bend (q +ℤ r)) f.beyond
        (none o (is_part o) table port k (record { port = port.number; channel = c }) r is (pair_on port.number c q) here refl))
    pick (Some y) is =
        let x = kept o (is_part o) table port k (record { port = port.number; channel = c }) r y.0 y.1 is in
        let there_too : there y.0 ≡ true = sym (t.tells y.0) ∙ x.1.there in
        let low : y.0 ≤ℤ q = lt_int q y.0 (x.1.least (pair_on port.number c q) here refl f.beyond) in
        elim (cases_ltz y.0 q) [
          | inl l ↦ absurd (both_ways (is_within_bend (y.0 +ℤ r)) x.1.beyond
              (f.least y.0 (in_range y.0 (pairs_within _ o table _ (pair_on port.number c y.0) t.range x.1.there)) l there_too))
          | inr l ↦ (let same : y.0 ≡ q = omega (arith, ints, low, l) in is ∙ ap (λ a. Some (a, y.1)) same ∙ ap (λ a. Some (q, a)) x.0)
        ]

pub none_is : LeastIsKept → (o : Options) (table : Targets) (port : PortEvents) (k c : ℕ) (there : ℤ → Bool) (r : ℤ) → Tells o table port k c there
    → NoneBeyond there r
    → first_beyond (record { port = port.number; channel = c }) r (pairs_at o (is_part o) table port k) ≡ None
none_is kept o table port k c there r t f = pick
    (first_beyond (record { port = port.number; channel = c }) r (pairs_at o (is_part o) table port k)) refl
  where
    pick : (x : Option (ℤ × ℤ)) → first_beyond (record { port = port.number; channel = c }) r (pairs_at o (is_part o) table port k) ≡ x
        → first_beyond (record { port = port.number; channel = c }) r (pairs_at o (is_part o) table port k) ≡ None
    pick None is = is
    pick (Some y) is =
        let x = kept o (is_part o) table port k (record { port = port.number; channel = c }) r y.0 y.1 is in
        absurd (both_ways (is_within_bend (y.0 +ℤ r)) x.1.beyond
        (f y.0 (in_range y.0 (pairs_within _ o table _ (pair_on port.number c y.0) t.range x.1.there)) (sym (t.tells y.0) ∙ x.1.there)))
