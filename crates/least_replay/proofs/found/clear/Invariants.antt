use Rattle.std.proofs.Common.{◌≡◌, ◌++◌, ℕ, List, length, map, take, drop}
use Rattle.std.specs.List.{AllByRecursion}
use Rattle.mt_base.specs.Midi.{MidiEvent}
use Rattle.lifetimes.specs.Stands.{Stands, asked, table_in}
use Rattle.lifetimes.specs.Told.{is_held}
use Rattle.least_replay.specs.Ending.{stay_if}
use Rattle.least_replay.specs.FoundView.{slots_of, IsGoing}
use Rattle.least_replay.proofs.found.clear.Given as goal

abbrev pub invariant-loop-one : goal.invariant-loop-one
invariant-loop-one g l = record {
  same : length l.going ≡ length l.fn.going;
  done : (es : List MidiEvent) → Stands (g.T.Aims.table (table_in l.parts)) l.parts es → slots_of l.going
      ≡ map (stay_if (is_held (asked l.parts) (g.T.Aims.table (table_in l.parts)) es)) (take l.one-index (slots_of l.fn.going))
      ++ drop l.one-index (slots_of l.fn.going);
  all : (n : ℕ) → AllByRecursion (IsGoing (asked l.parts) n) l.fn.going → AllByRecursion (IsGoing (asked l.parts) n) l.going;
}
