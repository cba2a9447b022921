-- Which retuned parts have a note on, as the program keeps them.
use Rattle.std.specs.Prelude.{◌≡◌, ◌<◌, ℕ, List, ◌&&◌, nat_eq, slice_index}
use Rattle.mt_base.specs.Midi.{MidiEvent}
use Rattle.retune_model.specs.Options.{Options}
use Rattle.retune_model.specs.Faults.{is_part}
use Rattle.retune_model.specs.Ports.{events_on}
use Rattle.retune_model.specs.Dump.{has_note_on}
use Rattle.receiver.specs.Notes.{has}
use Rattle.lifetimes.specs.declared.noted.Noted.{Noted}

-- a mask tells of each channel whether it is a retuned part with a note on among the events of a port
abbrev pub AreNoted : Options → List MidiEvent → ℕ → Type 0
AreNoted o es mask = (c : ℕ) → c < 16 → has mask c ≡ (is_part o c && has_note_on (λ d. nat_eq d c) es)

-- of each port
abbrev pub IsNoted : Options → List MidiEvent → Noted → Type 0
IsNoted o es noted = (z : ℕ) → z < 256 → AreNoted o (events_on z es) (slice_index noted.parts z)
