-- What the lines of a list of scale changes are made of (this project's own).
use Rattle.std.specs.Prelude.{ℕ, ◌&&◌, nat_le, List, Bool}

-- a byte of a name: 33 to 126
abbrev pub is_name_byte : ℕ → Bool
is_name_byte b = nat_le 33 b && nat_le b 126

-- the greatest tick of an event
abbrev pub greatest_tick : ℕ
greatest_tick = 268435455

-- a tick and a name, by its bytes
abbrev pub Change : Type 0
Change = ℕ × List ℕ
