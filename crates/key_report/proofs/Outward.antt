-- Rounding to thousandths of a cent, by the sign of what is rounded.
use Rattle.std.proofs.Common.{◌+◌, ℤ, pos, negsuc, ◌-ℤ◌, ◌≤ℤ◌, arith}
use Rattle.std.specs.Prelude.{neg_ℤ}
use Rattle.std.proofs.lemmas.Int.{ints}
use Rattle.mt_base.specs.Pitch.{exactly, subtracted}
use Rattle.mt_base.specs.Laws.{LeastOfDifference, MostOfDifference, LeastOfExact, MostOfExact, LeastOfLess, MostOfMore}
use Rattle.key_report.specs.Errors.{rounded_down, least_error, greatest_error}
use Rattle.key_report.specs.ErrorLaws.{RoundsDown, RoundsUp, ErrorsHold, ErrorsAreNear, grains_of}

pub rounds_down : RoundsDown
rounds_down (pos n) = (omega (arith, ints), omega (arith, ints))
rounds_down (negsuc n) = (omega (arith, ints), omega (arith, ints))

pub rounds_up : RoundsUp
rounds_up n = let d = rounds_down (neg_ℤ n) in (omega (arith, ints, d.0, d.1), omega (arith, ints, d.0, d.1))

-- a number that is no greater is rounded to one that is no greater
down_grows : (a b : ℤ) → a ≤ℤ b → rounded_down a ≤ℤ rounded_down b
down_grows a b h = let x = rounds_down a in let y = rounds_down b in omega (arith, ints, h, x.0, x.1, y.0, y.1)

pub errors_hold : LeastOfDifference → MostOfDifference → LeastOfExact → MostOfExact → LeastOfLess → MostOfMore → ErrorsHold
errors_hold least most least_exact most_exact less more = λ p lo hi target at_least at_most. (
  less (subtracted (exactly target) p) (target -ℤ hi) (grains_of (least_error target hi)) (rounds_down (target -ℤ hi)).0
      (least (exactly target) p target hi (least_exact target) at_most),
  more (subtracted (exactly target) p) (target -ℤ lo) (grains_of (greatest_error target lo)) (rounds_up (target -ℤ lo)).0
      (most (exactly target) p target lo (most_exact target) at_least),
)

pub errors_are_near : ErrorsAreNear
errors_are_near = λ lo hi target near narrow low high.
    let d = down_grows (neg_ℤ (pos (near + 32000000))) (target -ℤ hi) (omega (arith, ints, narrow, low)) in
    let u = down_grows (neg_ℤ (pos (near + 32000000))) (neg_ℤ (target -ℤ lo)) (omega (arith, ints, high)) in
    (omega (arith, ints, d), omega (arith, ints, u))
