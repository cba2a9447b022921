use Rattle.std.proofs.Common.{◌≡◌, ◌-◌}
use Rattle.scala_lines.specs.Remaining.{remaining, missing}
use Rattle.scl_text.specs.Reading.{entries_at}
use Rattle.scl_text.proofs.Entries.{with_prefix}
use Rattle.scl_text.proofs.reading.entries.Given as goal

-- the entries so far, before those of the lines to come, are those of all lines
abbrev pub invariant-pitches : goal.invariant-pitches
invariant-pitches l = record {
  told : with_prefix l.entries.items (entries_at (missing l.lines) (l.count - l.counter) (remaining l.lines)) ≡ entries_at (missing l.fn.lines) l.count (remaining l.fn.lines);
  last : missing l.lines ≡ missing l.fn.lines;
}
