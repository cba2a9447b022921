-- The bytes of the dump and of the changes.
use Rattle.std.proofs.Common.{◌≡◌, ◌<◌, ◌≤◌, ◌+◌, ◌*◌, ℕ, zero, suc, ℤ, pos, negsuc, List, [], ◌∷◌, Bool, true, false, cond, nat_le, Option, Some, None, get_or, set, length, refl, ap, sym, ◌∙◌, arith, leb-true, length-append}
use Rattle.std.specs.Prelude.{IfSome, unwrap_or}
use Rattle.std.specs.List.{AllByRecursion, flat_map}
use Rattle.std.proofs.lemmas.List.{ext_get_or}
use Rattle.midi_model.specs.Sysex.{xor_all}
use Rattle.midi_model.specs.TuningBytes.{IsTuningValue, value_bytes, dump_body}
use Rattle.mts_msg.specs.Readings.{DumpsAreReadAgain, ChangesAreReadAgain, NothingWrittenResets}
use Rattle.retune_model.specs.Table.{Bounds, up_to, nearest_tuning}
use Rattle.retune_model.specs.Options.{Options}
use Rattle.retune_model.specs.Faults.{Targets}
use Rattle.retune_model.specs.Dump.{tuning_if, tuning_at, told_value, values_from}
use Rattle.routes.specs.Laws.{BytesAreDumps, BytesAreChanges}
use Rattle.routes.specs.Routed.{dump_of, change_of}
use Rattle.mts_msg.proofs.Lengths.{values_length}

pub values_count : (f : ℕ → Option ℕ) (k n : ℕ) → length (values_from f k n) ≡ n
values_count f k zero = refl
values_count f k (suc n) = omega (arith, values_count f (k + 1) n)

get_values_from : (f : ℕ → Option ℕ) (first n i k : ℕ) → first + i ≡ k → i < n → get_or (values_from f first n) i None ≡ f k
get_values_from f first zero i k is low = absurd (omega (arith, low))
get_values_from f first (suc n) zero k is low = let e : first ≡ k = omega (arith, is) in ap f e
get_values_from f first (suc n) (suc i) k is low = get_values_from f (first + 1) n i k (omega (arith, is)) (omega (arith, low))

pub values_are : (f : ℕ → Option ℕ) (xs : List (Option ℕ)) → length xs ≡ 128 → ((k : ℕ) → k < 128 → get_or xs k None ≡ f k) → xs ≡ values_from f 0 128
values_are f xs all same =
    ext_get_or None xs (values_from f 0 128) (all ∙ sym (values_count f 0 128))
    (λ k low. let less : k < 128 = omega (arith, low, all) in same k less ∙ sym (get_values_from f 0 128 k k (omega arith) less))

fits_up : (most : ℕ) (z : ℤ) → IfSome (up_to most z) (λ v. v ≤ most)
fits_up most (pos n) = pick (nat_le n most) refl
  where
    pick : (b : Bool) → nat_le n most ≡ b → IfSome (cond b (Some n) None) (λ v. v ≤ most)
    pick true e = leb-true n most e
    pick false e = tt
fits_up most (negsuc n) = tt

pub fits_if : (b : Option Bounds) → IsTuningValue (tuning_if b)
fits_if None = tt
fits_if (Some b) = fits_up 2097150 (nearest_tuning b.lo)

each_value : (table : Targets) (k n : ℕ) → AllByRecursion IsTuningValue (values_from (tuning_at table) k n)
each_value table k zero = tt
each_value table k (suc n) = (fits_if (table k 0), each_value table (k + 1) n)

value_below : (o : Option ℕ) → IsTuningValue o → unwrap_or o 0 ≤ 2097150
value_below None h = omega arith
value_below (Some v) h = h

pub told_fits : (table : Targets) (k : ℕ) → told_value table k ≤ 2097150
told_fits table k = value_below (tuning_at table k) (fits_if (table k 0))

-- ---- their lengths

pub dump_length : (o : Options) (table : Targets) → length (dump_of o table) ≡ 407
dump_length o table =
    let vs = values_from (tuning_at table) 0 128 in
    let body = dump_body o.program vs in
    let all : length vs ≡ 128 = values_count (tuning_at table) 0 128 in
    let values : length (flat_map value_bytes vs) ≡ 3 * length vs = values_length vs in
    let front : length body ≡ 21 + length (flat_map value_bytes vs) = omega arith in
    omega (arith, all, values, front, length-append body (xor_all body ∷ 0xf7 ∷ []))

pub change_length : (o : Options) (table : Targets) (k : ℕ) → length (change_of o table k) ≡ 11
change_length o table k = refl

-- ---- they read as the targets

pub bytes_are_dumps : DumpsAreReadAgain → BytesAreDumps
bytes_are_dumps again o table low = record {
  reads = again o.program (values_from (tuning_at table) 0 128) low (values_count (tuning_at table) 0 128) (each_value table 0 128);
  tuning = refl;
  no_reset = refl;
}

pub bytes_are_changes : ChangesAreReadAgain → NothingWrittenResets → BytesAreChanges
bytes_are_changes again resets o table low = record {
  reads = λ k below. again o.program k (told_value table k) low (omega (arith, below)) (told_fits table k);
  tuning = λ k. refl;
  no_reset = λ k. resets.1 o.program k (told_value table k);
}

pub each_set : {A : Type 0} (P : A → Type 0) (xs : List A) (i : ℕ) (x : A) → AllByRecursion P xs → P x → AllByRecursion P (set xs i x)
each_set P [] i x h p = tt
each_set P (y ∷ ys) zero x h p = (p, h.1)
each_set P (y ∷ ys) (suc i) x h p = (h.0, each_set P ys i x h.1 p)
