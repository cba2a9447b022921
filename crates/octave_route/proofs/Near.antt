-- The pitch that a class's value gives a key is within the bound of the key's pitch.
use Rattle.std.proofs.Common.{◌≡◌, ◌≤◌, ◌<◌, ◌+◌, ◌*◌, ◌/◌, ◌%◌, ℕ, List, refl, arith, pos, negsuc, ℤ, ◌+ℤ◌, ◌-ℤ◌, ◌*ℤ◌}
use Rattle.std.specs.Prelude.{◌≤ℤ◌}
use Rattle.std.specs.Int.{int_div_euclid}
use Rattle.std.proofs.lemmas.Int.{ints}
use Rattle.std.proofs.Math.Nat.{mod-add-div, mod-lt}
use Rattle.mt_base.specs.Pitch.{Pitch, exactly, added, Within}
use Rattle.retune_model.specs.Scale.{size_of}
use Rattle.retune_model.specs.Table.{Bounds, AreBounds}
use Rattle.retune_model.specs.Octave.{octave_moves}
use Rattle.retune_model.proofs.Laws.{PitchLaws}
use Rattle.octave_route.specs.Classes.{nearest_value}

record Floor (z q : ℤ) : Type 0 where
  low : (pos 390625000 *ℤ q) ≤ℤ z
  high : z ≤ℤ (pos 390625000 *ℤ q +ℤ pos 390624999)

floor : (z : ℤ) → Floor z (int_div_euclid z (pos 390625000))
floor (pos a) =
    let sum : a % 390625000 + 390625000 * (a / 390625000) ≡ a = mod-add-div a 390625000 in
    let small : a % 390625000 < 390625000 = mod-lt a (omega arith) in
    record { low = omega (arith, ints, sum, small); high = omega (arith, ints, sum, small) }
floor (negsuc a) =
    let sum : a % 390625000 + 390625000 * (a / 390625000) ≡ a = mod-add-div a 390625000 in
    let small : a % 390625000 < 390625000 = mod-lt a (omega arith) in
    record { low = omega (arith, ints, sum, small); high = omega (arith, ints, sum, small) }

-- at most one step apart
record IsBeside (a b : ℤ) : Type 0 where
  low : a ≤ℤ (b +ℤ pos 1)
  high : b ≤ℤ (a +ℤ pos 1)

beside_size : (a b d : ℤ) → a -ℤ b ≡ d → size_of d ≤ 1 → IsBeside a b
beside_size a b (pos n) e h = record { low = omega (arith, ints, e, h); high = omega (arith, ints, e, h) }
beside_size a b (negsuc n) e h = record { low = omega (arith, ints, e, h); high = omega (arith, ints, e, h) }

-- one and a half steps
pub record IsServed (lo n : ℤ) : Type 0 where
  pub low : n ≤ℤ (lo +ℤ pos 585937500)
  pub high : lo ≤ℤ (n +ℤ pos 585937500)

pub served : (key v : ℕ) (lo n : ℤ) → size_of (nearest_value key lo -ℤ pos v) ≤ 1 → n ≡ pos (3200000000000 * key) +ℤ octave_moves v → IsServed lo n
served key v lo n near is =
    let q : ℤ = int_div_euclid ((lo -ℤ pos key *ℤ pos 3200000000000) +ℤ pos 195312500) (pos 390625000) in
    let f = floor ((lo -ℤ pos key *ℤ pos 3200000000000) +ℤ pos 195312500) in
    let b = beside_size (pos 8192 +ℤ q) (pos v) ((pos 8192 +ℤ q) -ℤ pos v) refl near in
    record { low = omega (arith, ints, f.low, f.high, b.low, b.high, is); high = omega (arith, ints, f.low, f.high, b.low, b.high, is) }

-- 585,937,500 grains are one and a half steps, 32,000,000 a thousandth of a cent
pub heard_within : (laws : PitchLaws) (p : Pitch) (terms : ℕ) (ratios : List (ℕ × ℕ)) (b : Bounds) (a x n : ℤ) → AreBounds p terms ratios b
    → terms ≤ 1700
    → IsServed b.lo a → n ≡ a +ℤ x → Within (added p (exactly x)) n (585937500 + 32000000)
heard_within laws p terms ratios b a x n are few s same =
    let low = s.low in
    let high = s.high in
    let narrow = are.narrow in
    record {
      least = laws.least_of_less (added p (exactly x)) (b.lo +ℤ x) (n -ℤ pos (585937500 + 32000000)) (omega (arith, ints, same, low))
          (laws.least_of_sum p (exactly x) b.lo x are.least (laws.least_of_exact x));
      most = laws.most_of_more (added p (exactly x)) (b.hi +ℤ x) (n +ℤ pos (585937500 + 32000000)) (omega (arith, ints, same, high, narrow, few))
          (laws.most_of_sum p (exactly x) b.hi x are.most (laws.most_of_exact x));
    }
