use Rattle.std.proofs.Common.{◌≡◌, List, length, drop}
use Rattle.mt_base.specs.Midi.{MidiEvent}
use Rattle.lifetimes.specs.Stands.{Stands, asked, table_in}
use Rattle.lifetimes.specs.Told.{is_sounding}
use Rattle.least_replay.specs.Ending.{keep_runs}
use Rattle.least_replay.specs.FoundView.{all_seen, slots_of, needs_now}
use Rattle.least_replay.proofs.found.keep_all.Given as goal

abbrev pub invariant-loop-one : goal.invariant-loop-one
invariant-loop-one g l = record {
  same : length l.runs ≡ length l.fn.runs;
  done : (es : List MidiEvent) → Stands (g.T.Aims.table (table_in l.parts)) l.parts es
      → keep_runs (is_sounding (asked l.parts) (g.T.Aims.table (table_in l.parts)) es)
      (needs_now (asked l.parts) (g.T.Aims.table (table_in l.parts)) es) (drop l.one-index (slots_of l.going)) (all_seen l.runs)
      ≡ keep_runs (is_sounding (asked l.parts) (g.T.Aims.table (table_in l.parts)) es)
      (needs_now (asked l.parts) (g.T.Aims.table (table_in l.parts)) es) (slots_of l.going) (all_seen l.fn.runs);
}
