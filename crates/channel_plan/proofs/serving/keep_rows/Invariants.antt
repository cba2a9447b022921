use Rattle.std.proofs.Common.{◌≡◌, ◌≤◌, ◌-◌, ℕ, List, length, take, drop}
use Rattle.std.specs.List.{AllByRecursion}
use Rattle.mt_base.specs.Midi.{MidiEvent}
use Rattle.lifetimes.specs.Stands.{Stands, asked, table_in}
use Rattle.channel_plan.specs.declared.plan.Given.{Given}
use Rattle.channel_plan.specs.Serving.{heads, RowStands, RowKept}
use Rattle.channel_plan.proofs.serving.keep_rows.Given as goal

abbrev pub invariant-loop-row : goal.invariant-loop-row
invariant-loop-row g l = record {
  within : l.row ≤ length l.rows;
  same : length l.rows ≡ length l.fn.rows;
  behind : drop l.row l.rows ≡ drop l.row l.fn.rows;
  heads : heads l.rows ≡ heads l.fn.rows;
  done : (es : List MidiEvent) (gs : List Given) (k : ℕ) → Stands (g.T.Aims.table (table_in l.parts)) l.parts (take k es)
      → AllByRecursion (RowStands (asked l.parts) (g.T.Aims.table (table_in l.parts)) es gs k) l.fn.rows
      → AllByRecursion (RowKept (asked l.parts) (g.T.Aims.table (table_in l.parts)) es gs k) (take l.row l.rows);
}

abbrev pub decreases-loop-row : goal.decreases-loop-row
decreases-loop-row g l = length l.rows - l.row
