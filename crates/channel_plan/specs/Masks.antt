-- Channels in a mask: bit c is channel c, counted from 0.
use Rattle.std.specs.Prelude.{ℕ, Bool, nat_eq}
use Rattle.std.specs.Int.{bit_at}

abbrev pub is_allowed : ℕ → ℕ → Bool
is_allowed allowed c = nat_eq (bit_at allowed c) 1
