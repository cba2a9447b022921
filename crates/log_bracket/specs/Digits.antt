-- Binary digits of a logarithm to the base 2.
use Rattle.std.specs.Prelude.{ℕ, ◌+◌, ◌*◌, ◌^◌, ◌<◌, ◌≤◌}

-- start is a / b in units of 2 ^ -63, cut down
pub record IsQuotient (start a b : ℕ) : Type 0 where
  pub low : start * b ≤ 2 ^ 63 * a
  pub high : 2 ^ 63 * a < (start + 1) * b

-- 2 ^ 32, the power of a / b that tells 32 digits
unfoldable pub power : ℕ
power = 4294967296

-- the logarithm of a / b, in units of 2 ^ -32, is at least digits and at most 2 more
pub record IsLogarithm (digits a b : ℕ) : Type 0 where
  pub least : 2 ^ digits * b ^ power ≤ a ^ power
  pub most : a ^ power ≤ 2 ^ (digits + 2) * b ^ power
