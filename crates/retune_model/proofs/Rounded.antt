-- A target is within half a step of the lower end that it is taken from, and so of the pitch within the bound.
use Rattle.std.proofs.Common.{List, ◌≡◌, ◌≤◌, ◌<◌, ◌+◌, ◌*◌, ◌/◌, ◌%◌, ℕ, Bool, true, false, cond, Some, None, arith, pos, negsuc, ℤ, ◌+ℤ◌, ◌-ℤ◌, ◌≤ℤ◌, nat_le}
use Rattle.std.specs.Int.{int_div_euclid}
use Rattle.std.proofs.lemmas.Int.{ints}
use Rattle.std.proofs.Math.Nat.{mod-add-div, mod-lt}
use Rattle.mt_base.specs.Pitch.{Pitch, exactly, added, Within}
use Rattle.retune_model.specs.Table.{Bounds, AreBounds, up_to, nearest_tuning, tuning_target}
use Rattle.retune_model.proofs.Laws.{PitchLaws}

record Near (z : ℤ) (v : ℕ) : Type 0 where
  low : pos (195312500 * v) ≤ℤ z
  high : z ≤ℤ pos (195312500 * v + 195312499)

near : (z : ℤ) (v : ℕ) → int_div_euclid z (pos 195312500) ≡ pos v → Near z v
near (pos a) v e =
    let same : a / 195312500 ≡ v = cc in
    let sum : a % 195312500 + 195312500 * (a / 195312500) ≡ a = mod-add-div a 195312500 in
    let small : a % 195312500 < 195312500 = mod-lt a (omega arith) in
    record { low = omega (arith, ints, same, sum, small); high = omega (arith, ints, same, sum, small) }
near (negsuc a) v e = absurd cc

up_to_is : (most : ℕ) (z : ℤ) (v : ℕ) → up_to most z ≡ Some v → z ≡ pos v
up_to_is most (pos n) v e = pick (nat_le n most) e
  where
    pick : (b : Bool) → cond b (Some n) None ≡ Some v → pos n ≡ pos v
    pick true h = cc
    pick false h = absurd cc
up_to_is most (negsuc n) v e = absurd cc

pub record IsRounded (lo : ℤ) (v : ℕ) : Type 0 where
  pub low : pos (195312500 * v) ≤ℤ (lo +ℤ pos 97656250)
  pub high : lo ≤ℤ (pos (195312500 * v) +ℤ pos 97656250)

pub rounded : (b : Bounds) (v : ℕ) → tuning_target b ≡ Some v → IsRounded b.lo v
rounded b v e =
    let n = near (b.lo +ℤ pos 97656250) v (up_to_is 2097150 (nearest_tuning b.lo) v e) in
    let l = n.low in
    let h = n.high in
    record { low = l; high = omega (arith, ints, h) }

-- 97,656,250 grains are half a step, 32,000,000 a thousandth of a cent
pub heard_within : (laws : PitchLaws) (p : Pitch) (terms : ℕ) (ratios : List (ℕ × ℕ)) (b : Bounds) (v : ℕ) (x n : ℤ) → AreBounds p terms ratios b → terms ≤ 1700 → tuning_target b ≡ Some v → n ≡ (pos (195312500 * v) +ℤ x)
    → Within (added p (exactly x)) n (97656250 + 32000000)
heard_within laws p terms ratios b v x n a few e same =
    let r = rounded b v e in
    let low = r.low in
    let high = r.high in
    let narrow = a.narrow in
    record {
      least = laws.least_of_less (added p (exactly x)) (b.lo +ℤ x) (n -ℤ pos (97656250 + 32000000)) (omega (arith, ints, same, low)) (laws.least_of_sum p (exactly x) b.lo x a.least (laws.least_of_exact x));
      most = laws.most_of_more (added p (exactly x)) (b.hi +ℤ x) (n +ℤ pos (97656250 + 32000000)) (omega (arith, ints, same, high, narrow, few)) (laws.most_of_sum p (exactly x) b.hi x a.most (laws.most_of_exact x));
    }
