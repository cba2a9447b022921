-- The numbers of the kinds of fault.
use Rattle.std.specs.Prelude.{ℕ}
use Rattle.kbm_text.specs.declared.fault.KbmKind.{KbmKind}
use Rattle.kbm_text.specs.declared.fault.KbmKind.TheVariants.{MissingField, BadNumber, SizeRange, KeyRange, BadFrequency, BadEntry, DegreeRange}

abbrev pub kind_number : KbmKind → ℕ
kind_number MissingField = 1
kind_number BadNumber = 2
kind_number SizeRange = 3
kind_number KeyRange = 4
kind_number BadFrequency = 5
kind_number BadEntry = 6
kind_number DegreeRange = 7
