-- Reading a scale text is exact.
use Rattle.std.proofs.Common.{List}
use Rattle.scala_lines.specs.Laws.{ArePrefixes, AreNumbers}
use Rattle.scala_lines.specs.Steps.{IsExact}
use Rattle.scl_text.specs.Reading.{scale_of}
use Rattle.scl_text.specs.Spelling.{ScaleText, ScaleFault}
use Rattle.scl_text.proofs.Scales.{read_is_scale, scale_is_read, read_is_fault, fault_is_read}
use Rattle.std.proofs.Common.{ℕ}

pub exact : ArePrefixes → AreNumbers → (lines : List (List ℕ)) → IsExact (ScaleText lines) (ScaleFault lines) (scale_of lines)
exact prefixes numbers lines = record {
  value = read_is_scale prefixes numbers lines;
  again = scale_is_read prefixes numbers lines;
  fault = read_is_fault prefixes numbers lines;
  fault_again = fault_is_read prefixes numbers lines;
}
