-- The numbers of the kinds of fault.
use Rattle.std.specs.Prelude.{ℕ}
use Rattle.scl_text.specs.declared.fault.SclKind.{SclKind}
use Rattle.scl_text.specs.declared.fault.SclKind.TheVariants.{NoDescription, NoCount, BadCount, CountRange, BadPitch, NegativeRatio, ZeroRatio, BigNumber, MissingPitch}

abbrev pub kind_number : SclKind → ℕ
kind_number NoDescription = 1
kind_number NoCount = 2
kind_number BadCount = 3
kind_number CountRange = 4
kind_number BadPitch = 5
kind_number NegativeRatio = 6
kind_number ZeroRatio = 7
kind_number BigNumber = 8
kind_number MissingPitch = 9
