use Rattle.std.proofs.Common.{◌≡◌, length}
use Rattle.scala_lines.specs.Characters.{behind}
use Rattle.scale_changes.specs.Names.{is_name_byte}
use Rattle.scale_changes.proofs.line.after_name.Given as goal

abbrev pub decreases-bytes : goal.decreases-bytes
decreases-bytes l = length l.rest

abbrev pub invariant-bytes : goal.invariant-bytes
invariant-bytes l = behind is_name_byte l.rest ≡ behind is_name_byte l.fn.bytes
