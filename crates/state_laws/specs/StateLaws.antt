-- That a channel's state stays well formed.
use Rattle.std.specs.Prelude.{◌≤◌, ◌≡◌, ℕ, List, length, replicate, get_or}
use Rattle.std.specs.List.{AllByRecursion}
use Rattle.mt_base.specs.Midi.{MidiEvent}
use Rattle.mt_base.specs.declared.event.Msg.{Msg}
use Rattle.mt_base.specs.Valid.{IsValidMsg, IsValidEvent}
use Rattle.midi_model.specs.Params.{rpn, put}
use Rattle.midi_model.specs.Channel.{Channel, State, default_state, apply_state}
use Rattle.midi_model.specs.Music.{Music, quiet, step, play, state_at}
use Rattle.midi_model.specs.WellFormed.{IsWellFormed}

abbrev pub StartsWellFormed : Type 0
StartsWellFormed = IsWellFormed default_state

-- after a valid message
abbrev pub StaysWellFormed : Type 0
StaysWellFormed = (s : State) (m : Msg) → IsWellFormed s → IsValidMsg m → IsWellFormed (apply_state s m)

-- ---- receivers

-- a channel with no key pressed
abbrev pub unpressed : Channel → State
unpressed s = record { own = s; keys = replicate 128 0 }

-- a receiver's channels, and the pressures that its notes have
pub record AreWellFormed (m : Music) : Type 0 where
  pub channels : AllByRecursion (λ s. IsWellFormed (unpressed s)) m.channels
  pub pressures : AllByRecursion (λ n. n.pressure ≤ 127) m.notes

-- they stay so after any valid event
abbrev pub EventsKeepThem : Type 0
EventsKeepThem = (m : Music) (e : MidiEvent) → AreWellFormed m → IsValidEvent e → AreWellFormed (step m e)

-- so they are after any list of valid events
abbrev pub ReceiversAreWellFormed : Type 0
ReceiversAreWellFormed = (es : List MidiEvent) → AllByRecursion IsValidEvent es → AreWellFormed (play quiet es)

-- each channel with its key pressures is well formed then
abbrev pub EachChannelIs : Type 0
EachChannelIs = (m : Music) (c : ℕ) → AreWellFormed m → IsWellFormed (state_at m c)

-- ---- other values

-- a state with another bend sensitivity in semitones (RPN 0), another bend and other key pressures
abbrev pub given : State → ℕ → ℕ → List ℕ → State
given s range bend keys = record {
  own = record s.own { params = put (rpn 0) (range, 0) s.own.params; bend = bend };
  keys = keys;
}

-- such a one is well formed too
abbrev pub StaysWellFormedWith : Type 0
StaysWellFormedWith = (s : State) (range bend : ℕ) (keys : List ℕ)
    → IsWellFormed s → range ≤ 127 → bend ≤ 16383 → length keys ≡ 128 → ((k : ℕ) → get_or keys k 0 ≤ 127)
    → IsWellFormed (given s range bend keys)
