use Rattle.std.proofs.Common.{◌≡◌, List, length, drop}
use Rattle.mt_base.specs.Midi.{MidiEvent}
use Rattle.lifetimes.specs.Stands.{Stands, asked, table_in}
use Rattle.lifetimes.specs.Told.{is_held}
use Rattle.least_replay.specs.Ending.{end_runs}
use Rattle.least_replay.specs.FoundView.{all_seen, slots_of, leaves_now}
use Rattle.least_replay.proofs.found.end_all.Given as goal

abbrev pub invariant-loop-one : goal.invariant-loop-one
invariant-loop-one g l = record {
  same : length l.runs ≡ length l.fn.runs;
  done : (es : List MidiEvent) → Stands (g.T.Aims.table (table_in l.parts)) l.parts es
      → end_runs (is_held (asked l.parts) (g.T.Aims.table (table_in l.parts)) es)
      (leaves_now (asked l.parts) (g.T.Aims.table (table_in l.parts)) es) l.last l.resets (drop l.one-index (slots_of l.going)) (all_seen l.runs)
      ≡ end_runs (is_held (asked l.parts) (g.T.Aims.table (table_in l.parts)) es)
      (leaves_now (asked l.parts) (g.T.Aims.table (table_in l.parts)) es) l.last l.resets (slots_of l.going) (all_seen l.fn.runs);
}
