use Rattle.std.proofs.Common.{◌≡◌, ◌<◌, ◌≤◌, ℕ, zero, suc, ◌+◌, ◌*◌, ◌-◌, List, [], ◌∷◌, length, take, drop, get_or, nat_lt, nat_eq, true, false, refl, sym, ◌∙◌, ap, arith, Option, Some, None}
use Rattle.std.specs.List.{AllByRecursion}
use Rattle.std.proofs.lemmas.List.{get_or-take, length-take}
use Rattle.std.proofs.lemmas.Bool.{ltb-true, and_from, and_parts, eqb-true, cond-true, cond-false, both_ways}
use Rattle.midi_model.specs.Sysex.{all_low, key_values, changes, is_dump, is_change, tuning_of, Retune, begins, Exactly, Any}
use Rattle.midi_model.specs.TuningBytes.{IsTuningValue, numbered}
use Rattle.mts_msg.specs.Readings.{IsInRange, ReadsDumps}
use Rattle.mts_msg.specs.declared.reading.Tuning.{Tuning}
use Rattle.mts_msg.specs.declared.reading.Tuning.TheVariants.{Dump}
use Rattle.mts_msg.proofs.Written.{value_range, dump_is, dump_again}

pub low_at : (bytes : List ℕ) (i : ℕ) → all_low bytes ≡ true → get_or bytes i 0 < 128
low_at [] i h = omega arith
low_at (b ∷ bs) zero h = ltb-true b 128 (and_parts (nat_lt b 128) (all_low bs) h).0
low_at (b ∷ bs) (suc i) h = low_at bs i (and_parts (nat_lt b 128) (all_low bs) h).1

low_fewer : (bytes : List ℕ) (n m : ℕ) → m ≤ n → all_low (take n bytes) ≡ true → all_low (take m bytes) ≡ true
low_fewer bytes n zero fewer h = refl
low_fewer [] n (suc m) fewer h = refl
low_fewer (b ∷ bs) zero (suc m) fewer h = absurd (omega (arith, fewer))
low_fewer (b ∷ bs) (suc n) (suc m) fewer h =
    let parts = and_parts (nat_lt b 128) (all_low (take n bs)) h in
    and_from (nat_lt b 128) (all_low (take m bs)) parts.0 (low_fewer bs n m (omega (arith, fewer)) parts.1)

-- what lies among data bytes are data bytes
pub low_within : (bytes : List ℕ) (n i m : ℕ) → i + m ≤ n → all_low (take n bytes) ≡ true → all_low (take m (drop i bytes)) ≡ true
low_within bytes n zero m within h = low_fewer bytes n m (omega (arith, within)) h
low_within [] n (suc i) zero within h = refl
low_within [] n (suc i) (suc m) within h = refl
low_within (b ∷ bs) zero (suc i) m within h = absurd (omega (arith, within))
low_within (b ∷ bs) (suc n) (suc i) m within h = low_within bs n i m (omega (arith, within)) (and_parts (nat_lt b 128) (all_low (take n bs)) h).1

abbrev Within : ℕ × Option ℕ → Type 0
Within x = (x.0 ≤ 127) × IsTuningValue x.1

keys_within : (k : ℕ) (bytes : List ℕ) → all_low bytes ≡ true → 3 * k + length bytes ≤ 384 → AllByRecursion Within (key_values k bytes)
keys_within k [] low room = tt
keys_within k (a ∷ []) low room = tt
keys_within k (a ∷ b ∷ []) low room = tt
keys_within k (a ∷ b ∷ c ∷ bs) low room =
    let one = and_parts (nat_lt a 128) (all_low (b ∷ c ∷ bs)) low in
    let two = and_parts (nat_lt b 128) (all_low (c ∷ bs)) one.1 in
    let last = and_parts (nat_lt c 128) (all_low bs) two.1 in
    ((omega (arith, room), value_range a b c (ltb-true a 128 one.0) (ltb-true b 128 two.0) (ltb-true c 128 last.0)), keys_within (k + 1) bs last.1 (omega (arith, room)))

changes_within : (bytes : List ℕ) → all_low bytes ≡ true → AllByRecursion Within (changes bytes)
changes_within [] low = tt
changes_within (k ∷ []) low = tt
changes_within (k ∷ a ∷ []) low = tt
changes_within (k ∷ a ∷ b ∷ []) low = tt
changes_within (k ∷ a ∷ b ∷ c ∷ bs) low =
    let key = and_parts (nat_lt k 128) (all_low (a ∷ b ∷ c ∷ bs)) low in
    let one = and_parts (nat_lt a 128) (all_low (b ∷ c ∷ bs)) key.1 in
    let two = and_parts (nat_lt b 128) (all_low (c ∷ bs)) one.1 in
    let last = and_parts (nat_lt c 128) (all_low bs) two.1 in
    let below : k < 128 = ltb-true k 128 key.0 in
    ((omega (arith, below), value_range a b c (ltb-true a 128 one.0) (ltb-true b 128 two.0) (ltb-true c 128 last.0)), changes_within bs last.1)

-- what is read as a dump is in range
pub dump_within : (bytes : List ℕ) (keys : List (ℕ × Option ℕ)) → is_dump bytes ≡ true → keys ≡ key_values 0 (take (length bytes - 2 - 21) (drop 21 bytes))
    → IsInRange (record { program = get_or bytes 4 0; keys = keys })
dump_within bytes keys is e =
    let low : all_low (take 406 bytes) ≡ true =
    (and_parts _ _ (and_parts (begins (Exactly 0x7e ∷ Any ∷ Exactly 0x08 ∷ Exactly 0x01 ∷ []) bytes) _ (and_parts (nat_eq (length bytes) 407) _ is).1).1).0 in
    let program : get_or bytes 4 0 < 128 = rw (sym (get_or-take 406 bytes 4 0 (omega arith))) (low_at (take 406 bytes) 4 low) in
    let whole : length bytes ≡ 407 = eqb-true (length bytes) 407 (and_parts (nat_eq (length bytes) 407) _ is).0 in
    let few : length (take (length bytes - 2 - 21) (drop 21 bytes)) ≤ 384 = omega (arith, whole, length-take (length bytes - 2 - 21) (drop 21 bytes)) in
    record {
      program = omega (arith, program);
      keys = rw e (keys_within 0 (take (length bytes - 2 - 21) (drop 21 bytes)) (low_within bytes 406 21 (length bytes - 2 - 21) (omega (arith, whole)) low) (omega (arith, few)));
    }

-- and what is read as a change
pub change_within : (bytes : List ℕ) (keys : List (ℕ × Option ℕ)) → is_change bytes ≡ true → 7 ≤ length bytes → keys ≡ changes (take (length bytes - 1 - 6) (drop 6 bytes))
    → IsInRange (record { program = get_or bytes 4 0; keys = keys })
change_within bytes keys is long e =
    let low : all_low (take (length bytes - 1) bytes) ≡ true =
    (and_parts _ _ (and_parts (begins (Exactly 0x7f ∷ Any ∷ Exactly 0x08 ∷ Exactly 0x02 ∷ []) bytes) _ (and_parts (nat_eq (length bytes) (7 + 4 * get_or bytes 5 0)) _ is).1).1).0 in
    let program : get_or bytes 4 0 < 128 = rw (sym (get_or-take (length bytes - 1) bytes 4 0 (omega (arith, long)))) (low_at (take (length bytes - 1) bytes) 4 low) in
    record {
      program = omega (arith, program);
      keys = rw e (changes_within (take (length bytes - 1 - 6) (drop 6 bytes)) (low_within bytes (length bytes - 1) 6 (length bytes - 1 - 6) (omega (arith, long)) low));
    }

-- which it is
pub change_read : (bytes : List ℕ) (keys : List (ℕ × Option ℕ)) → is_dump bytes ≡ false → is_change bytes ≡ true → keys ≡ changes (take (length bytes - 1 - 6) (drop 6 bytes))
    → Some (record { program = get_or bytes 4 0; keys = keys }) ≡ tuning_of bytes
change_read bytes keys nothing change e =
    let same : length bytes - 1 - 6 ≡ length bytes - 7 = omega arith in
    let last : changes (take (length bytes - 1 - 6) (drop 6 bytes)) ≡ changes (take (length bytes - 7) (drop 6 bytes)) = ap (λ n. changes (take n (drop 6 bytes))) same in
    sym (cond-false (is_dump bytes) _ _ nothing ∙ cond-true (is_change bytes) (Some (record { program = get_or bytes 4 0; keys = changes (take (length bytes - 7) (drop 6 bytes)) })) None change
    ∙ ap (λ ks. let o : Option Retune = Some (record { program = get_or bytes 4 0; keys = ks }) in o) (sym (e ∙ last)))

numbered_same : (k : ℕ) (one two : List (Option ℕ)) → numbered k one ≡ numbered k two → one ≡ two
numbered_same k [] [] e = refl
numbered_same k [] (y ∷ ys) e = absurd cc
numbered_same k (x ∷ xs) [] e = absurd cc
numbered_same k (x ∷ xs) (y ∷ ys) e =
    let first : (k, x) ≡ (k, y) = ap (λ l. get_or l 0 (k, x)) e in
    let rest : numbered (k + 1) xs ≡ numbered (k + 1) ys = ap (drop 1) e in
    ap (λ p. p.1 ∷ xs) first ∙ ap (λ r. y ∷ r) (numbered_same (k + 1) xs ys rest)

retune_is : (x y : Retune) → (let o : Option Retune = Some x in o) ≡ Some y → x ≡ y
retune_is x y e = cc

-- what is written as a dump is that dump
pub reads_dump : (bytes : List ℕ) (program : ℕ) (values : List (Option ℕ)) → (let o : Option Retune = Some (record { program = program; keys = numbered 0 values }) in o) ≡ tuning_of bytes
    → ReadsDumps bytes (Some (Dump program values))
reads_dump bytes program values e q vs below all fits is =
    let same = retune_is _ _ (e ∙ ap tuning_of is ∙ dump_again q vs below all fits) in
    ap (λ r. let o : Option Tuning = Some (Dump r.program values) in o) same ∙ ap (λ l. let o : Option Tuning = Some (Dump q l) in o) (numbered_same 0 values vs (ap (λ r. r.keys) same))

-- and nothing else is
pub reads_other : (bytes : List ℕ) (result : Option Tuning) → is_dump bytes ≡ false → ReadsDumps bytes result
reads_other bytes result nothing q vs below all fits is =
    absurd (both_ways (is_dump bytes) nothing (ap is_dump is ∙ dump_is q vs below all fits))

pub dump_read : (bytes : List ℕ) (keys : List (ℕ × Option ℕ)) → is_dump bytes ≡ true → keys ≡ key_values 0 (take (length bytes - 2 - 21) (drop 21 bytes))
    → (let o : Option Retune = Some (record { program = get_or bytes 4 0; keys = keys }) in o) ≡ tuning_of bytes
dump_read bytes keys is e =
    let whole : length bytes ≡ 407 = eqb-true (length bytes) 407 (and_parts (nat_eq (length bytes) 407) _ is).0 in
    let same : length bytes - 2 - 21 ≡ 384 = omega (arith, whole) in
    sym (cond-true (is_dump bytes) (Some (record { program = get_or bytes 4 0; keys = key_values 0 (take 384 (drop 21 bytes)) })) _ is
    ∙ ap (λ ks. let o : Option Retune = Some (record { program = get_or bytes 4 0; keys = ks }) in o) (sym (e ∙ ap (λ n. key_values 0 (take n (drop 21 bytes))) same)))
