use Rattle.std.proofs.Common.{◌≡◌, ◌≤◌, ◌-◌, ◌++◌, List, length, map, take, drop}
use Rattle.mt_base.specs.Midi.{MidiEvent}
use Rattle.lifetimes.specs.Stands.{Stands, asked, table_in}
use Rattle.lifetimes.specs.Told.{is_sounding}
use Rattle.plan_laws.specs.Rows.{needed, keep}
use Rattle.channel_plan.specs.Seeing.{all_seen, ArePartsOn, runs_in}
use Rattle.channel_plan.proofs.places.keep_all.Given as goal

abbrev pub invariant-loop-place : goal.invariant-loop-place
invariant-loop-place g l = record {
  within : l.place ≤ length l.places;
  same : length l.places ≡ length l.fn.places;
  runs : runs_in l.places ≡ runs_in l.fn.places;
  done : (es : List MidiEvent) → Stands (g.T.Aims.table (table_in l.parts)) l.parts es → ArePartsOn (asked l.parts) (all_seen l.fn.places)
      → all_seen l.places ≡ map (keep (is_sounding (asked l.parts) (g.T.Aims.table (table_in l.parts)) es) (needed (asked l.parts) (g.T.Aims.table
      (table_in l.parts)) es)) (take l.place (all_seen l.fn.places)) ++ drop l.place (all_seen l.fn.places);
}

abbrev pub decreases-loop-place : goal.decreases-loop-place
decreases-loop-place g l = length l.places - l.place
