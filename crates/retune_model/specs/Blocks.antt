-- What is written where the source's events are passed on as they are: for each source event a block, which is that event
-- with groups of messages around it (this project's own).
use Rattle.std.specs.Prelude.{ℕ, ◌≡◌, ◌<◌, List, [], ◌∷◌, ◌++◌, false, map}
use Rattle.mt_base.specs.declared.event.Msg.{Msg}
use Rattle.mt_base.specs.Midi.{MidiEvent, Says, SysexOf}
use Rattle.midi_model.specs.Sysex.{is_reset}
use Rattle.midi_model.specs.Channel.{nothing_selected}
use Rattle.midi_model.specs.Music.{Music, channel_at, step}
use Rattle.midi_model.specs.TuningBytes.{select_of}

abbrev pub says : ℕ → ℕ → Msg → MidiEvent
says t track m = record { tick = t; track = track; what = Says m }

-- the messages that select a tuning program on a channel (MIDI Tuning Standard), at one tick in one track
abbrev pub selecting : ℕ → ℕ → ℕ → ℕ → List MidiEvent
selecting t track c p = map (says t track) (select_of c p)

-- messages that belong together, at one tick in one track: those that select a tuning program on a channel, or one system
-- exclusive message with the lead F0
pub data Group : Type 0 where
  Selects : ℕ → ℕ → ℕ → ℕ → Group
  Sends : ℕ → ℕ → List ℕ → Group

abbrev pub events_of : Group → List MidiEvent
events_of (Selects t track c p) = selecting t track c p
events_of (Sends t track bytes) = record { tick = t; track = track; what = SysexOf 240 bytes } ∷ []

abbrev pub all_events : List Group → List MidiEvent
all_events [] = []
all_events (g ∷ gs) = events_of g ++ all_events gs

-- A group that may stand at this moment without being heard in the music: a selection on a channel on which no parameter is
-- selected, or a system exclusive message that is no reset.
abbrev pub IsSilent : Music → Group → Type 0
IsSilent m (Selects t track c p) = (c < 16) × ((channel_at m c).selection ≡ nothing_selected)
IsSilent m (Sends t track bytes) = is_reset bytes ≡ false

abbrev pub AreSilent : Music → List Group → Type 0
AreSilent m [] = Unit {0}
AreSilent m (g ∷ gs) = IsSilent m g × AreSilent m gs

-- a source event, with what is written before and behind it
pub record Block : Type 0 where
  pub before : List Group
  pub event : MidiEvent
  pub behind : List Group

abbrev pub written : Block → List MidiEvent
written b = all_events b.before ++ b.event ∷ all_events b.behind

-- all that is written, and what it was written for
abbrev pub output : List Block → List MidiEvent
output [] = []
output (b ∷ bs) = written b ++ output bs

abbrev pub sources : List Block → List MidiEvent
sources [] = []
sources (b ∷ bs) = b.event ∷ sources bs

-- each group stands at a moment of the source at which it is silent
abbrev pub Fits : Music → List Block → Type 0
Fits m [] = Unit {0}
Fits m (b ∷ bs) = AreSilent m b.before × AreSilent (step m b.event) b.behind × Fits (step m b.event) bs
