-- Reading a mapping text is exact.
use Rattle.std.proofs.Common.{ℕ, List}
use Rattle.scala_lines.specs.Laws.{ArePrefixes, AreNumbers}
use Rattle.scala_lines.specs.Steps.{IsExact}
use Rattle.kbm_text.specs.Reading.{map_of}
use Rattle.kbm_text.specs.Spelling.{MapText, MapFault}
use Rattle.kbm_text.proofs.Maps.{read_is_map, map_is_read, read_is_fault, fault_is_read}

pub exact : ArePrefixes → AreNumbers → (lines : List (List ℕ)) → IsExact (MapText lines) (MapFault lines) (map_of lines)
exact prefixes numbers lines = record {
  value = read_is_map prefixes numbers lines;
  again = map_is_read prefixes numbers lines;
  fault = read_is_fault prefixes numbers lines;
  fault_again = fault_is_read prefixes numbers lines;
}
