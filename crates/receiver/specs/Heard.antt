-- What one channel plays, as the program keeps it: the notes on its keys, with their numbers.
use Rattle.std.specs.Prelude.{◌≡◌, ◌<◌, nat_eq, ℕ, true, false, not, ◌&&◌, if◌then◌else◌, Option, Some, None, is_some, slice_index}
use Rattle.midi_model.specs.Notes.{Note, is_down, ending, releasing}
use Rattle.receiver.specs.Notes.{Told, note_of}
use Rattle.receiver.specs.State.{own_of}
use Rattle.receiver.specs.Turns.{kept}
use Rattle.receiver.specs.declared.note.Struck.{Struck}
use Rattle.receiver.specs.declared.playing.Playing.{Playing}
use Rattle.receiver.specs.declared.turn.Turn.{Turn}
use Rattle.receiver.specs.declared.turn.Turn.TheVariants.{SoundOff, NotesOff, Capture, Free}

-- the note of the definition on key k of channel c, with the pressure of its key
abbrev pub sounded : ℕ → ℕ → ℕ → Told → Note
sounded c k p n = record {
  channel = c;
  key = k;
  onset = n.onset;
  velocity = n.velocity;
  voice = record { high = n.voice.bank_high; low = n.voice.bank_low; program = n.voice.program };
  release = n.released;
  captured = n.captured;
  pressure = p;
  ended = None;
}

abbrev pub heard_by : ℕ → ℕ → ℕ → Option Told → Option (ℕ × Note)
heard_by c k p None = None
heard_by c k p (Some n) = Some (n.number, sounded c k p n)

-- what sounds on key k of channel c
abbrev pub heard : ℕ → Playing → ℕ → Option (ℕ × Note)
heard c s k = heard_by c k (slice_index s.state.keys.items k) (note_of s.keys k)

-- a note of the definition as the program tells of it
abbrev pub told : ℕ × Note → Told
told x = record {
  number = x.0;
  onset = x.1.onset;
  velocity = x.1.velocity;
  voice = record { bank_high = x.1.voice.high; bank_low = x.1.voice.low; program = x.1.voice.program };
  released = x.1.release;
  captured = x.1.captured;
}

-- a note that begins on key k of channel c
abbrev pub begins_as : ℕ → ℕ → Struck → Note
begins_as c k s = record {
  channel = c;
  key = k;
  onset = s.onset;
  velocity = s.velocity;
  voice = record { high = s.voice.bank_high; low = s.voice.bank_low; program = s.voice.program };
  release = None;
  captured = false;
  pressure = 0;
  ended = None;
}

-- what the pedals and key pressure do to a note that sounds
abbrev pub taken : Note → Note
taken n = if is_down n then record n { captured = true } else n

abbrev pub let_go : Note → Note
let_go n = record n { captured = false }

abbrev pub pressed : ℕ → Note → Note
pressed v n = record n { pressure = v }

-- what is left of a note once no hold pedal holds it: none, where its key is up and it isn't captured
abbrev pub without_pedal : Option (ℕ × Note) → Option (ℕ × Note)
without_pedal None = None
without_pedal (Some x) = if is_some x.1.release && not x.1.captured then None else Some x

-- what a controller does to a note that it reaches
abbrev pub turned_by : Turn → ℕ → Note → Note
turned_by SoundOff t n = ending t n
turned_by NotesOff t n = releasing t 64 n
turned_by Capture t n = taken n
turned_by Free t n = let_go n

-- ---- what becomes of what one channel plays

-- its state stays, the pressures of its keys aside
pub record SameState (r s : Playing) : Type 0 where
  pub own : own_of s.state ≡ own_of r.state
  pub tuning : s.state.tuning ≡ r.state.tuning

abbrev pub IsSilent : Playing → Type 0
IsSilent s = (c k : ℕ) → k < 128 → heard c s k ≡ None

abbrev pub HeardStay : Playing → Playing → Type 0
HeardStay r s = (c k : ℕ) → k < 128 → heard c s k ≡ heard c r k

-- what becomes of each note that sounds; it ends where it doesn't sound then
abbrev pub HeardBecome : (Note → Note) → Playing → Playing → Type 0
HeardBecome f r s = (c k : ℕ) → k < 128 → heard c s k ≡ kept f (heard c r k)

-- the same, on one key
abbrev pub HeardAt : ℕ → (Note → Note) → Playing → Playing → Type 0
HeardAt key f r s = (c k : ℕ) → k < 128 → heard c s k ≡ (if nat_eq k key then kept f (heard c r k) else heard c r k)
