use Rattle.std.proofs.Common.{◌≡◌, ◌≤◌, ◌-◌, ℕ, suc, List, length, map, take, drop}
use Rattle.std.specs.List.{AllByRecursion}
use Rattle.mt_base.specs.Midi.{MidiEvent}
use Rattle.retune_model.specs.Ports.{tick_to}
use Rattle.lifetimes.specs.Stands.{Stands, asked, table_in}
use Rattle.channel_plan.specs.Counts.{IsTimed}
use Rattle.channel_plan.specs.Tallies.{TallyStands, IsNext}
use Rattle.channel_plan.specs.Surveys.{key}
use Rattle.channel_plan.proofs.tallies.go_on.Given as goal

abbrev pub invariant-loop-place : goal.invariant-loop-place
invariant-loop-place g l = record {
  within : l.place ≤ length l.tallies;
  same : length l.tallies ≡ length l.fn.tallies;
  rest : drop l.place l.tallies ≡ drop l.place l.fn.tallies;
  keys : map key l.tallies ≡ map key l.fn.tallies;
  done : (es : List MidiEvent) (k : ℕ) (e : MidiEvent) → Stands (g.T.Aims.table (table_in l.parts)) l.parts (take (suc k) es)
      → IsNext (asked l.parts) (g.T.Aims.table (table_in l.parts)) es k e l.change
      → l.instant.position ≡ suc k → IsTimed (tick_to es) l.instant
      → AllByRecursion (TallyStands (asked l.parts) (g.T.Aims.table (table_in l.parts)) es k) l.fn.tallies
      → AllByRecursion (TallyStands (asked l.parts) (g.T.Aims.table (table_in l.parts)) es (suc k)) (take l.place l.tallies);
}

abbrev pub decreases-loop-place : goal.decreases-loop-place
decreases-loop-place g l = length l.tallies - l.place
