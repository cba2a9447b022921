use Rattle.std.proofs.Common.{◌≡◌, ◌≤◌, ◌-◌, length, map}
use Rattle.scala_lines.specs.Lines.{entry_lines}
use Rattle.scala_lines.specs.Remaining.{remaining}
use Rattle.scale_changes.specs.Answers.{change_as_told}
use Rattle.scale_changes.specs.Reading.{list_at}
use Rattle.scale_changes.proofs.Taken.{with_prefix}
use Rattle.scale_changes.proofs.list.changes.Given as goal

-- the changes so far, before those of the lines to come, are those of all lines
abbrev pub invariant-lines : goal.invariant-lines
invariant-lines l = record {
  told : with_prefix (map change_as_told l.changes.items) (list_at (16 - length l.changes.items) l.last (entry_lines (remaining l.lines))) ≡ list_at 16 0 (entry_lines (remaining l.fn.lines));
  few : length l.changes.items ≤ 16;
}

abbrev pub decreases-lines : goal.decreases-lines
decreases-lines l = length (entry_lines (remaining l.lines))
