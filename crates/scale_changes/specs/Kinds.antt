-- The numbers of the kinds of fault.
use Rattle.std.specs.Prelude.{ℕ}
use Rattle.scale_changes.specs.declared.fault.ListKind.{ListKind}
use Rattle.scale_changes.specs.declared.fault.ListKind.TheVariants.{BadTick, TickOrder, BadName, TooMany}

abbrev pub kind_number : ListKind → ℕ
kind_number BadTick = 1
kind_number TickOrder = 2
kind_number BadName = 3
kind_number TooMany = 4
