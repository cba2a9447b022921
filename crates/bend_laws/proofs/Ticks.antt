-- What is shown of the musics at each tick.
use Rattle.std.specs.Prelude.{◌≡◌, ◌≢◌, ◌≤◌, ℕ, pos, ◌+ℤ◌, List, Bool, true, Some, None}
use Rattle.std.specs.List.{AllByRecursion}
use Rattle.mt_base.specs.Midi.{MidiEvent}
use Rattle.midi_model.specs.Params.{Parameter, value_of, rpn}
use Rattle.midi_model.specs.Notes.{Note}
use Rattle.midi_model.specs.Order.{AreInOrder}
use Rattle.midi_model.specs.Tuning.{selected_of}
use Rattle.midi_model.specs.Receiver.{Receiver}
use Rattle.retune_model.specs.Table.{BendTarget}
use Rattle.retune_model.specs.Options.{Options}
use Rattle.retune_model.specs.Source.{bend_in_steps}
use Rattle.retune_model.specs.PlaysTheSame.{at_tick, state_of}
use Rattle.retune_model.specs.Faults.{Targets, target_of}
use Rattle.retune_model.specs.Ports.{Numbered, unnumbered, Ascend}
use Rattle.channel_model.specs.Choice.{bend_value}

-- the positions rise, are none past the last, and the events come in the order of their ticks
pub record AreTimely (ns : List Numbered) (last : ℕ) : Type 0 where
  pub rising : Ascend 0 ns
  pub within : AllByRecursion (λ (n : Numbered). n.position ≤ last) ns
  pub in_order : AreInOrder 0 (unnumbered ns)

-- All that a note's channel has but the pitch that it makes: controllers, pressures, and the parameters but the bend sensitivity are
-- the source's; the bend is that of the note's target and of the source's bend together.
pub record IsSetAlike (o : Options) (table : Targets) (rs ro : Receiver) (a b : Note) : Type 0 where
  pub target : BendTarget
  pub aim : target_of o table a ≡ Some target
  pub controls : (state_of ro.music b).controls ≡ (state_of rs.music a).controls
  pub pressure : (state_of ro.music b).pressure ≡ (state_of rs.music a).pressure
  pub key_pressure : b.pressure ≡ a.pressure
  pub parameters : (p : Parameter) → p ≢ rpn 0 → value_of (state_of ro.music b).params p ≡ value_of (state_of rs.music a).params p
  pub bend : (state_of ro.music b).bend ≡ bend_value ((pos 8192 +ℤ target.steps) +ℤ bend_in_steps o.range (state_of rs.music a))

-- no used channel has selected a tuning program, at any tick
abbrev pub IsUntuned : (ℕ → Bool) → List MidiEvent → Type 0
IsUntuned used out = (t c : ℕ) → used c ≡ true → selected_of (at_tick t out).tuning c ≡ None
