-- The passes through the events of a source: what is asked of the events, and which notes are counted together.
use Rattle.std.specs.Prelude.{◌<◌, ◌≤◌, ℕ, List, Bool, Option, Some, None, length}
use Rattle.std.specs.List.{AllByRecursion}
use Rattle.mt_base.specs.Midi.{MidiEvent}
use Rattle.mt_base.specs.Valid.{IsValidEvent}
use Rattle.midi_model.specs.Order.{AreInOrder}
use Rattle.retune_model.specs.Options.{Options}
use Rattle.retune_model.specs.Faults.{is_part}
use Rattle.channel_model.specs.Rows.{only}

-- what is asked of the events of a source
pub record AreAsked (es : List MidiEvent) : Type 0 where
  pub valid : AllByRecursion IsValidEvent es
  pub order : AreInOrder 0 es
  pub tracks : AllByRecursion (λ (e : MidiEvent). e.track < 1024) es
  pub few : length es ≤ 2097152

-- the notes of which channels are counted together: those of one part, or of all
abbrev pub channels_in : Options → Option ℕ → ℕ → Bool
channels_in o None = is_part o
channels_in o (Some c) = only c
