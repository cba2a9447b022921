use Rattle.std.proofs.Common.{◌≡◌, ◌≤◌, ◌-◌, ℕ, suc, List, length, take, drop}
use Rattle.std.specs.List.{AllByRecursion}
use Rattle.mt_base.specs.Midi.{MidiEvent}
use Rattle.midi_model.specs.Sysex.{doing}
use Rattle.retune_model.specs.Ports.{port_of, ports_from, all_zero, resets}
use Rattle.lifetimes.specs.Stands.{Stands, asked, table_in}
use Rattle.lifetimes.specs.Told.{TellsEnds}
use Rattle.plan_laws.specs.Counting.{ComesAt}
use Rattle.channel_plan.specs.declared.plan.Given.{Given}
use Rattle.channel_plan.specs.Serving.{heads, RowKept, RowFreed}
use Rattle.channel_plan.proofs.serving.free_rows.Given as goal

abbrev pub invariant-loop-row : goal.invariant-loop-row
invariant-loop-row g l = record {
  within : l.row ≤ length l.rows;
  same : length l.rows ≡ length l.fn.rows;
  behind : drop l.row l.rows ≡ drop l.row l.fn.rows;
  heads : heads l.rows ≡ heads l.fn.rows;
  done : (es : List MidiEvent) (gs : List Given) (k : ℕ) (e : MidiEvent) → l.position ≡ suc k → ComesAt es k e
      → Stands (g.T.Aims.table (table_in l.parts)) l.parts (take (suc k) es)
      → TellsEnds (asked l.parts) (take k es) e l.ended
      → l.port ≡ port_of (ports_from all_zero (take k es)) e → l.is_reset ≡ resets (doing e.what)
      → AllByRecursion (RowKept (asked l.parts) (g.T.Aims.table (table_in l.parts)) es gs k) l.fn.rows
      → AllByRecursion (RowFreed (asked l.parts) (g.T.Aims.table (table_in l.parts)) es gs k) (take l.row l.rows);
}

abbrev pub decreases-loop-row : goal.decreases-loop-row
decreases-loop-row g l = length l.rows - l.row
