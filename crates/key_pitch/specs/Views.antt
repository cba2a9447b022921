-- A bracket as the definitions see it.
use Rattle.std.specs.Prelude.{Option, Some, None}
use Rattle.mt_base.specs.declared.Bracket.{Bracket}
use Rattle.retune_model.specs.Table.{Bounds}

abbrev pub bounds_of : Bracket → Bounds
bounds_of b = record { lo = b.lo.0; hi = b.hi.0 }

abbrev pub bounds_if : Option Bracket → Option Bounds
bounds_if None = None
bounds_if (Some b) = Some (bounds_of b)
