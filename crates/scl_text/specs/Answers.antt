-- The faults that the reader answers.
use Rattle.std.specs.Prelude.{Option, Some, None}
use Rattle.scala_lines.specs.Reading.{Fault}
use Rattle.scl_text.specs.declared.fault.SclKind.{SclKind}
use Rattle.scl_text.specs.declared.fault.SclFault.{SclFault}
use Rattle.scl_text.specs.declared.fault.SclFault.TheVariants.{At, Memory}

-- a line and a kind, or None where memory ran out
abbrev pub seen : SclFault → Option (Fault SclKind)
seen (At line kind) = Some (record { line = line; kind = kind })
seen Memory = None
