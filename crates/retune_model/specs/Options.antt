-- What is asked of the program, as far as the output depends on it (this project's own).
use Rattle.std.specs.Prelude.{ℕ, ◌+◌, ◌*◌, Bool, true, false, ◌&&◌, ◌||◌, not, nat_eq, List, [], ◌∷◌}
use Rattle.mt_base.specs.Midi.{MidiWhat, Says, SysexOf, MetaOf, MidiEvent, channel_of}

-- how notes get their pitches: a tuning program told at once or key by key (MIDI Tuning Standard), bends on channels of their
-- own, or bends on the members of zones (MPE 1.0)
pub data Route : Type 0 where
  ByDump : Route
  ByLive : Route
  ByBend : Route
  ByMpe : Route

pub record Options : Type 0 where
  pub route : Route
  -- the bend sensitivity in semitones
  pub range : ℕ
  pub keep_drums : Bool
  -- the tuning program
  pub program : ℕ
  -- for how many ticks after its end a note rests, and keeps its channel on the bend route
  pub tail : ℕ

abbrev pub bends_notes : Route → Bool
bends_notes ByDump = false
bends_notes ByLive = false
bends_notes ByBend = true
bends_notes ByMpe = true

-- whether an event is a message on channel 10, the drums
abbrev pub is_drum_message : MidiWhat → Bool
is_drum_message (Says m) = nat_eq (channel_of m) 9
is_drum_message (SysexOf lead bytes) = false
is_drum_message (MetaOf kind bytes) = false

abbrev pub has_drums : List MidiEvent → Bool
has_drums [] = false
has_drums (e ∷ es) = is_drum_message e.what || has_drums es

-- drums are kept, and there are some
abbrev pub keeps_drums : Options → List MidiEvent → Bool
keeps_drums o es = o.keep_drums && has_drums es

-- a channel whose notes are retuned, where drums are kept or not
abbrev pub is_retuned : Bool → ℕ → Bool
is_retuned drums c = not (drums && nat_eq c 9)

-- half of the finest step of pitch that the output has, in grains: of 1/16384 semitone, or of a bend at the sensitivity
abbrev pub half_step : Route → ℕ → ℕ
half_step ByDump range = 97656250
half_step ByLive range = 97656250
half_step ByBend range = 195312500 * range
half_step ByMpe range = 195312500 * range

-- how far a note may be from its pitch: half a step of the device and a thousandth of a cent
abbrev pub bound : Options → ℕ
bound o = half_step o.route o.range + 32000000

-- where notes don't rest
abbrev pub restless : Options → Options
restless o = record o { tail = 0 }
