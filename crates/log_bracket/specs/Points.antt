-- Brackets of one point.
use Rattle.std.specs.Prelude.{◌≡◌, ℤ}
use Rattle.mt_base.specs.declared.pitch.Bracket.{Bracket}

-- both ends are this number of grains
abbrev pub IsPoint : Bracket → ℤ → Type 0
IsPoint b z = (b.lo.0 ≡ z) × (b.hi.0 ≡ z)
