-- The faults that the reader answers.
use Rattle.std.specs.Prelude.{Option, Some, None}
use Rattle.scala_lines.specs.Reading.{Fault}
use Rattle.kbm_text.specs.declared.fault.KbmKind.{KbmKind}
use Rattle.kbm_text.specs.declared.fault.KbmFault.{KbmFault}
use Rattle.kbm_text.specs.declared.fault.KbmFault.TheVariants.{At, Memory}

-- a line and a kind, or None where memory ran out
abbrev pub seen : KbmFault → Option (Fault KbmKind)
seen (At line kind) = Some (record { line = line; kind = kind })
seen Memory = None
