-- What the output of the bend route plays at a position, seen from the source.
use Rattle.std.specs.Prelude.{◌≡◌, ◌≢◌, ℕ, zero, suc, List, [], ◌∷◌, ◌++◌, Bool, true, false, if◌then◌else◌, Option, Some, None, map, filter, replicate}
use Rattle.std.specs.List.{AllByRecursion}
use Rattle.retune_model.specs.Pairs.{Pair}
use Rattle.mt_base.specs.declared.event.Msg.TheVariants.{NoteOn}
use Rattle.mt_base.specs.Midi.{MidiWhat, Says, MidiEvent}
use Rattle.midi_model.specs.Channel.{State}
use Rattle.midi_model.specs.Notes.{Note, sounds}
use Rattle.midi_model.specs.Music.{state_at}
use Rattle.retune_model.specs.Table.{BendTarget}
use Rattle.retune_model.specs.Options.{Options}
use Rattle.retune_model.specs.PlaysTheSame.{Pairwise, bend_target_if}
use Rattle.retune_model.specs.Faults.{Targets, is_part}
use Rattle.retune_model.specs.Ports.{Numbered}
use Rattle.channel_model.specs.Choice.{wanted}
use Rattle.channel_model.specs.BendOutput.{pair_with, PortRuns}
use Rattle.bend_laws.specs.Moments.{Both}
use Rattle.bend_laws.specs.Brought.{IsSameAside}
use Rattle.bend_laws.specs.Follows.{Has, IsPlayedBy}
use Rattle.bend_laws.specs.Positions.{port_event}

-- the notes of retuned parts
abbrev pub retuned : Options → List Note → List Note
retuned o ns = filter (λ n. is_part o n.channel) ns

-- a state but for what is selected for data entry
pub record IsState (s w : State) : Type 0 where
  pub own : IsSameAside s.own w.own
  pub keys : s.keys ≡ w.keys

-- the channel that the plan names for the note that an event begins, where it begins a retuned one
abbrev pub on_target : ℕ → (Pair → ℕ) → ℕ → Option BendTarget → List ℕ
on_target port place c (Some t) = place (pair_with port c t) ∷ []
on_target port place c None = []

abbrev pub channel_begun : ℕ → Options → Targets → (Pair → ℕ) → ℕ → MidiWhat → List ℕ
channel_begun port o table place t (Says (NoteOn c j (suc v))) =
    if is_part o c then on_target port place c (bend_target_if o.range (table j t)) else []
channel_begun port o table place t _ = []

abbrev pub channel_if : ℕ → Options → Targets → (Pair → ℕ) → Option MidiEvent → List ℕ
channel_if port o table place (Some e) = channel_begun port o table place e.tick e.what
channel_if port o table place None = []

-- those of all retuned notes up to a position, in the order of their note ons
abbrev pub planned_channels : Options → Targets → PortRuns → List Numbered → ℕ → List ℕ
planned_channels o table plan ns zero = []
planned_channels o table plan ns (suc k) = planned_channels o table plan ns k ++ channel_if plan.number o table (plan.channel (suc k))
    (port_event ns (suc k))

abbrev pub IsFree : PortRuns → ℕ → ℕ → Type 0
IsFree plan k c = (p : Pair) → Has (plan.pairs k) p → plan.channel k p ≢ c

-- At a position the retuned notes of both are equally many, and agree one by one; the output's are on the channels that the plan
-- names. The channel of each pair that is there is at what the pair needs. Each other used channel sounds no note, and is as it was
-- left.
pub record PlaysAt (o : Options) (table : Targets) (used : ℕ → Bool) (plan : PortRuns) (ns : List Numbered) (k : ℕ) (b : Both) : Type 0 where
  pub notes : Pairwise (IsPlayedBy plan.number o table (plan.channel k)) (retuned o b.source.notes) (retuned o b.out.notes)
  pub channels : map (λ (n : Note). n.channel) (retuned o b.out.notes) ≡ planned_channels o table plan ns k
  pub there : (p : Pair) → Has (plan.pairs k) p → IsState (state_at b.out (plan.channel k p)) (wanted o table b.source p)
  pub silent : (c : ℕ) → used c ≡ true → IsFree plan k c → AllByRecursion (λ (n : Note). n.channel ≡ c → sounds n ≡ false) b.out.notes
  pub left : (c : ℕ) → used c ≡ true → IsFree plan k c → IsState (state_at b.out c) (let s : State =
      record { own = b.left c; keys = replicate 128 0 } in s)
