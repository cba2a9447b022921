use Rattle.std.proofs.Common.{◌≡◌, ◌<◌, ◌≤◌, ℕ, ◌+◌, ◌*◌, ◌/◌, ◌%◌, List, [], ◌∷◌, ◌++◌, length, take, drop, get_or, nat_lt, nat_eq, ◌&&◌, true, false, refl, sym, ◌∙◌, ap, arith, Option, Some, None, inl, inr, length-append}
use Rattle.std.specs.List.{flat_map, AllByRecursion}
use Rattle.std.proofs.Math.Seq.{take-append-add, take-append_seam, get_or-append_seam}
use Rattle.std.proofs.lemmas.List.{get_or-append-add}
use Rattle.std.proofs.lemmas.Bool.{lt-ltb, ltb-true, and_from, and_parts, and_left, and_right, eq-eqb, cases_lt, cases_eq, ne_eqb, cond-false, cond-true, cond_both}
use Rattle.std.proofs.lemmas.Nat.{xor_lt}
use Rattle.midi_model.specs.Sysex.{all_low, xor_all, value_at, key_values, is_dump, is_change, Retune}
use Rattle.midi_model.specs.TuningBytes.{value_bytes, IsTuningValue, dump_name, dump_body, dump_bytes, change_bytes, numbered}
use Rattle.mts_msg.specs.Readings.{DumpsAreReadAgain, ChangesAreReadAgain}
use Rattle.mts_msg.proofs.Lengths.{values_length}

-- the three bytes aren't all 7F where their value is lower
pub is_some : (a b c : ℕ) → 16384 * a + 128 * b + c ≤ 2097150 → nat_eq a 127 && (nat_eq b 127 && nat_eq c 127) ≡ false
is_some a b c small =
    elim (cases_eq a 127) [
      | inr n ↦ and_left (nat_eq a 127) (nat_eq b 127 && nat_eq c 127) (ne_eqb a 127 n)
      | inl ea ↦ and_right (nat_eq a 127) (nat_eq b 127 && nat_eq c 127)
          (elim (cases_eq b 127) [
            | inr n ↦ and_left (nat_eq b 127) (nat_eq c 127) (ne_eqb b 127 n)
            | inl eb ↦ and_right (nat_eq b 127) (nat_eq c 127) (ne_eqb c 127 (λ ec. omega (arith, small, ea, eb, ec)))
          ])
    ]

-- a value's bytes are read as that value
pub value_again : (v : ℕ) → v ≤ 2097150 → value_at (v / 16384) ((v / 128) % 128) (v % 128) ≡ Some v
value_again v small =
    let sum : 16384 * (v / 16384) + 128 * ((v / 128) % 128) + v % 128 ≡ v = omega arith in
    cond-false _ None (Some (16384 * (v / 16384) + 128 * ((v / 128) % 128) + v % 128)) (is_some (v / 16384) ((v / 128) % 128) (v % 128) (omega (arith, small, sum))) ∙ ap (λ n. let o : Option ℕ = Some n in o) sum

under : (a b c : ℕ) → a < 128 → b < 128 → c < 128 → nat_eq a 127 && (nat_eq b 127 && nat_eq c 127) ≡ false → 16384 * a + 128 * b + c ≤ 2097150
under a b c la lb lc f =
    elim (cases_lt (16384 * a + 128 * b + c) 2097151) [
      | inl l ↦ omega (arith, l)
      | inr h ↦
          let t : nat_eq a 127 && (nat_eq b 127 && nat_eq c 127) ≡ true =
          and_from (nat_eq a 127) (nat_eq b 127 && nat_eq c 127) (eq-eqb a 127 (omega (arith, la, lb, lc, h)))
          (and_from (nat_eq b 127) (nat_eq c 127) (eq-eqb b 127 (omega (arith, la, lb, lc, h))) (eq-eqb c 127 (omega (arith, la, lb, lc, h)))) in
          let clash : true ≡ false = sym t ∙ f in absurd cc
    ]

-- data bytes say no more than three of them can
pub value_range : (a b c : ℕ) → a < 128 → b < 128 → c < 128 → IsTuningValue (value_at a b c)
value_range a b c la lb lc =
    cond_both (nat_eq a 127 && (nat_eq b 127 && nat_eq c 127)) None (Some (16384 * a + 128 * b + c)) IsTuningValue (λ t. tt) (λ f. under a b c la lb lc f)

-- the bytes of a list of values are data bytes, and are read as that list
pub values_low : (vs : List (Option ℕ)) → AllByRecursion IsTuningValue vs → all_low (flat_map value_bytes vs) ≡ true
values_low [] h = refl
values_low (None ∷ vs) h = values_low vs h.1
values_low (Some v ∷ vs) h =
    and_from (nat_lt (v / 16384) 128) _ (lt-ltb (v / 16384) 128 (omega (arith, h.0)))
    (and_from (nat_lt ((v / 128) % 128) 128) _ (lt-ltb ((v / 128) % 128) 128 (omega arith))
    (and_from (nat_lt (v % 128) 128) _ (lt-ltb (v % 128) 128 (omega arith)) (values_low vs h.1)))

pub values_again : (k : ℕ) (vs : List (Option ℕ)) → AllByRecursion IsTuningValue vs → key_values k (flat_map value_bytes vs) ≡ numbered k vs
values_again k [] h = refl
values_again k (None ∷ vs) h = ap (λ r. (k, None) ∷ r) (values_again (k + 1) vs h.1)
values_again k (Some v ∷ vs) h =
    ap (λ o. (k, o) ∷ key_values (k + 1) (flat_map value_bytes vs)) (value_again v h.0) ∙ ap (λ r. (k, Some v) ∷ r) (values_again (k + 1) vs h.1)

pub low_append : (xs ys : List ℕ) → all_low xs ≡ true → all_low ys ≡ true → all_low (xs ++ ys) ≡ true
low_append [] ys h g = g
low_append (x ∷ xs) ys h g =
    let parts = and_parts (nat_lt x 128) (all_low xs) h in
    and_from (nat_lt x 128) (all_low (xs ++ ys)) parts.0 (low_append xs ys parts.1 g)

-- so is their exclusive or
pub xor_low : (bs : List ℕ) → all_low bs ≡ true → xor_all bs < 128
xor_low [] h = omega arith
xor_low (b ∷ bs) h =
    let parts = and_parts (nat_lt b 128) (all_low bs) h in
    xor_lt 7 b (xor_all bs) (ltb-true b 128 parts.0) (xor_low bs parts.1)

body_low : (program : ℕ) (values : List (Option ℕ)) → program ≤ 127 → AllByRecursion IsTuningValue values → all_low (dump_body program values) ≡ true
body_low program values p h =
    and_from (nat_lt program 128) (all_low (dump_name ++ flat_map value_bytes values)) (lt-ltb program 128 (omega (arith, p)))
    (low_append dump_name (flat_map value_bytes values) refl (values_low values h))

body_length : (program : ℕ) (values : List (Option ℕ)) → length values ≡ 128 → length (dump_body program values) ≡ 405
body_length program values all =
    let rest : length (flat_map value_bytes values) ≡ 3 * length values = values_length values in
    let front : length (dump_body program values) ≡ 21 + length (flat_map value_bytes values) = omega arith in
    omega (arith, rest, front, all)

take_body : (body : List ℕ) (x y n : ℕ) → length body ≡ n → take n (body ++ x ∷ y ∷ []) ≡ body
take_body body x y n e = rw (sym e) (take-append_seam body (x ∷ y ∷ []))

take_data : (body : List ℕ) (x y n : ℕ) → n ≡ length body + 1 → take n (body ++ x ∷ y ∷ []) ≡ body ++ x ∷ []
take_data body x y n e = rw e (take-append-add body (x ∷ y ∷ []) 1)

at_sum : (body : List ℕ) (x y n : ℕ) → length body ≡ n → get_or (body ++ x ∷ y ∷ []) n 0 ≡ x
at_sum body x y n e = rw (sym e) (get_or-append_seam body x (y ∷ []) 0)

at_last : (body : List ℕ) (x y n : ℕ) → n ≡ length body + 1 → get_or (body ++ x ∷ y ∷ []) n 0 ≡ y
at_last body x y n e = rw e (get_or-append-add body (x ∷ y ∷ []) 1 0)

pub dump_is : (program : ℕ) (values : List (Option ℕ)) → program ≤ 127 → length values ≡ 128 → AllByRecursion IsTuningValue values → is_dump (dump_bytes program values) ≡ true
dump_is program values p all h =
    let body = dump_body program values in
    let sum = xor_all body in
    let bytes = dump_bytes program values in
    let long : length body ≡ 405 = body_length program values all in
    let low : all_low body ≡ true = body_low program values p h in
    let whole : length bytes ≡ 407 = omega (arith, long, length-append body (sum ∷ 0xf7 ∷ [])) in
    let low_bytes : all_low (take 406 bytes) ≡ true =
    ap all_low (take_data body sum 0xf7 406 (omega (arith, long))) ∙ low_append body (sum ∷ []) low (and_from (nat_lt sum 128) true (lt-ltb sum 128 (xor_low body low)) refl) in
    let check : get_or bytes 405 0 ≡ xor_all (take 405 bytes) = at_sum body sum 0xf7 405 long ∙ sym (ap xor_all (take_body body sum 0xf7 405 long)) in
    let last : get_or bytes 406 0 ≡ 0xf7 = at_last body sum 0xf7 406 (omega (arith, long)) in
    and_from (nat_eq (length bytes) 407) _ (eq-eqb (length bytes) 407 whole)
    (and_from true _ refl
    (and_from (all_low (take 406 bytes)) _ low_bytes
    (and_from (nat_eq (get_or bytes 405 0) (xor_all (take 405 bytes))) (nat_eq (get_or bytes 406 0) 0xf7) (eq-eqb (get_or bytes 405 0) (xor_all (take 405 bytes)) check)
    (eq-eqb (get_or bytes 406 0) 0xf7 last))))

pub dump_again : DumpsAreReadAgain
dump_again program values p all h =
    let bytes = dump_bytes program values in
    let flat = flat_map value_bytes values in
    let room : length flat ≡ 384 = omega (arith, values_length values, all) in
    let middle : take 384 (drop 21 bytes) ≡ flat = take_body flat (xor_all (dump_body program values)) 0xf7 384 room in
    let keys : key_values 0 (take 384 (drop 21 bytes)) ≡ numbered 0 values = ap (key_values 0) middle ∙ values_again 0 values h in
    cond-true (is_dump bytes) (Some (record { program = program; keys = key_values 0 (take 384 (drop 21 bytes)) })) _ (dump_is program values p all h)
    ∙ ap (λ ks. let o : Option Retune = Some (record { program = program; keys = ks }) in o) keys

pub change_again : ChangesAreReadAgain
change_again program key value p k v =
    let a = value / 16384 in
    let b = (value / 128) % 128 in
    let c = value % 128 in
    let low_bytes : all_low (program ∷ 1 ∷ key ∷ a ∷ b ∷ c ∷ []) ≡ true =
    and_from (nat_lt program 128) _ (lt-ltb program 128 (omega (arith, p)))
    (and_from (nat_lt key 128) _ (lt-ltb key 128 (omega (arith, k)))
    (and_from (nat_lt a 128) _ (lt-ltb a 128 (omega (arith, v)))
    (and_from (nat_lt b 128) _ (lt-ltb b 128 (omega arith))
    (and_from (nat_lt c 128) true (lt-ltb c 128 (omega arith)) refl)))) in
    let is : is_change (change_bytes program key value) ≡ true = and_from (all_low (program ∷ 1 ∷ key ∷ a ∷ b ∷ c ∷ [])) true low_bytes refl in
    cond-true (is_change (change_bytes program key value)) (Some (record { program = program; keys = (key, value_at a b c) ∷ [] })) None is
    ∙ ap (λ o. let r : Option Retune = Some (record { program = program; keys = (key, o) ∷ [] }) in r) (value_again value v)
