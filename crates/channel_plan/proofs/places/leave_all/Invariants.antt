use Rattle.std.proofs.Common.{◌≡◌, ◌≤◌, ◌-◌, ◌++◌, List, false, length, map, take, drop}
use Rattle.mt_base.specs.Midi.{MidiEvent}
use Rattle.lifetimes.specs.Stands.{Stands, asked, table_in}
use Rattle.lifetimes.specs.Told.{is_held}
use Rattle.plan_laws.specs.Placing.{leave}
use Rattle.plan_laws.specs.Rows.{leaves_by}
use Rattle.channel_plan.specs.Seeing.{all_seen, ArePartsOn, AreKeptOn, runs_in}
use Rattle.channel_plan.proofs.places.leave_all.Given as goal

abbrev pub invariant-loop-place : goal.invariant-loop-place
invariant-loop-place g l = record {
  within : l.place ≤ length l.places;
  same : length l.places ≡ length l.fn.places;
  runs : runs_in l.places ≡ runs_in l.fn.places;
  done : (es : List MidiEvent) → Stands (g.T.Aims.table (table_in l.parts)) l.parts es → ArePartsOn (asked l.parts) (all_seen l.fn.places)
      → (l.fn.rests ≡ false → AreKeptOn l.fn.ended (is_held (asked l.parts) (g.T.Aims.table (table_in l.parts)) es) (all_seen l.fn.places))
      → all_seen l.places ≡ map (leave (is_held (asked l.parts) (g.T.Aims.table (table_in l.parts)) es) (leaves_by (asked l.parts) (g.T.Aims.table
      (table_in l.parts)) es) l.position) (take l.place (all_seen l.fn.places)) ++ drop l.place (all_seen l.fn.places);
}

abbrev pub decreases-loop-place : goal.decreases-loop-place
decreases-loop-place g l = length l.places - l.place
