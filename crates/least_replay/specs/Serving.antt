-- Plans of whose runs the costs are measured (this project's own).
use Rattle.std.specs.Prelude.{◌≡◌, ◌≤◌, ℕ, List, Bool, Some, length, unwrap_or}
use Rattle.mt_base.specs.Midi.{MidiEvent}
use Rattle.retune_model.specs.Options.{Options, ByBend}
use Rattle.retune_model.specs.Faults.{Targets, is_part}
use Rattle.retune_model.specs.Pairs.{Pair}
use Rattle.retune_model.specs.PortNeed.{pairs_on, need_of, TakesFreeOn}
use Rattle.channel_plan.specs.Planned.{Begins, IsPlan, notes_to, row_of, channel_of, runs_on}
use Rattle.channel_plan.specs.Told.{need_in, run_count_in, channel_in}
use Rattle.channel_plan.specs.declared.plan.Plan.{Plan}
use Rattle.least_replay.specs.Measure.{Run, first_of}

-- A plan that serves port z on the bend route, as it was built or with channels given anew: it tells what the port needs and how many
-- runs begin; each run gets, of a row of so many channels, a place that is free, and each note the channel of its run.
pub record ServesPort (o : Options) (table : Targets) (es : List MidiEvent) (plan : Plan) (z : ℕ) : Type 0 where
  pub used : List ℕ
  pub need : need_in plan z ≡ (need_of o (is_part o) table es z).0
  pub long : length used ≡ (need_of o (is_part o) table es z).0
  pub few : length used ≤ 16
  pub free : TakesFreeOn o (is_part o) table es z (length used) (row_of o es plan used)
  pub given : (k : ℕ) (p : Pair) → Begins o table es z k p
      → channel_in plan (notes_to o es k) ≡ Some (channel_of o es plan used (pairs_on o (is_part o) table es z) k p)
  pub run_count : run_count_in plan z ≡ runs_on o table es z (length es)

-- the channel of the note that begins at a position
abbrev pub channel_at : Options → List MidiEvent → Plan → ℕ → ℕ
channel_at o es plan b = unwrap_or (channel_in plan (notes_to o es b)) 0

-- the channel that a plan gives to a run: that of the note with which it begins
abbrev pub channel_given : Options → List MidiEvent → Plan → List Run → ℕ → ℕ
channel_given o es plan rs b = channel_at o es plan (first_of rs b)

-- ---- laws

-- a plan serves each port
abbrev pub PlansServe : Type 0
PlansServe = (o : Options) (allowed : ℕ → Bool) (table : Targets) (es : List MidiEvent) (plan : Plan) (z : ℕ) → o.route ≡ ByBend
    → IsPlan o allowed table es plan → ServesPort o table es plan z
