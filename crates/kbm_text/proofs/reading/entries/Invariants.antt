use Rattle.std.proofs.Common.{◌≡◌, ◌-◌}
use Rattle.scala_lines.specs.Lines.{entry_lines}
use Rattle.scala_lines.specs.Remaining.{remaining}
use Rattle.kbm_text.specs.Reading.{entries_at}
use Rattle.kbm_text.proofs.Entries.{with_prefix}
use Rattle.kbm_text.proofs.reading.entries.Given as goal

-- the entries so far, before those of the lines to come, are those of all lines
abbrev pub invariant-entries : goal.invariant-entries
invariant-entries l = with_prefix l.entries.items (entries_at (l.size - l.counter) (entry_lines (remaining l.lines))) ≡ entries_at l.size (entry_lines (remaining l.fn.lines))
