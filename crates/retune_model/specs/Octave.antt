-- A receiver of octave tuning: besides what the receiver is, it has for each channel twelve values, one for each class of keys (MIDI
-- Tuning Standard, scale/octave tuning, two-byte form, non real time; that a reset clears them is this project's profile).
use Rattle.std.specs.Prelude.{ℕ, zero, suc, ◌+◌, ◌*◌, ◌-◌, ◌/◌, ◌%◌, ℤ, pos, ◌+ℤ◌, ◌-ℤ◌, ◌*ℤ◌, List, [], ◌∷◌, Bool, true, ◌&&◌, nat_eq, nat_le, if◌then◌else◌, Option, Some, None, length, get_or, replicate, take}
use Rattle.mt_base.specs.Midi.{MidiWhat, SysexOf, MidiEvent}
use Rattle.midi_model.specs.Sysex.{Doing, Resets, doing}
use Rattle.midi_model.specs.Notes.{Note}
use Rattle.midi_model.specs.Zones.{governor}
use Rattle.midi_model.specs.Tuning.{selected_of}
use Rattle.midi_model.specs.Receiver.{after}
use Rattle.midi_model.specs.Played.{played}
use Rattle.retune_model.specs.PlaysTheSame.{Device}

-- ---- what a message says

-- for which channels, 0 to 15, and the twelve values from C on
pub record OctaveTuning : Type 0 where
  pub channels : ℕ → Bool
  pub values : List ℕ

-- the n-th bit from the lowest
abbrev pub has_bit : ℕ → ℕ → Bool
has_bit zero b = nat_eq (b % 2) 1
has_bit (suc n) b = has_bit n (b / 2)

-- channels 1 to 7 are the bits of the last of three bytes, 8 to 14 those of the second, 15 and 16 those of the first
abbrev pub names_channel : ℕ → ℕ → ℕ → ℕ → Bool
names_channel ff gg hh c = if nat_le c 6 then has_bit c hh else if nat_le c 13 then has_bit (c - 7) gg else nat_le c 15 && has_bit (c - 14) ff

-- high byte first
abbrev pub two_byte_values : List ℕ → List ℕ
two_byte_values [] = []
two_byte_values (h ∷ []) = []
two_byte_values (h ∷ l ∷ bs) = (128 * h + l) ∷ two_byte_values bs

abbrev pub are_data : List ℕ → Bool
are_data [] = true
are_data (b ∷ bs) = nat_le b 127 && are_data bs

-- what follows F0: 7E, any device, 08 09, three bytes of channels, twelve values, F7
abbrev pub octave_body : ℕ → ℕ → ℕ → ℕ → List ℕ → Option OctaveTuning
octave_body device ff gg hh rest =
    if are_data (device ∷ ff ∷ gg ∷ hh ∷ take 24 rest) && (nat_le ff 3 && (nat_eq (length rest) 25 && nat_eq (get_or rest 24 0) 0xf7))
    then Some (record { channels = names_channel ff gg hh; values = two_byte_values (take 24 rest) }) else None

abbrev pub octave_of : List ℕ → Option OctaveTuning
octave_of (a ∷ device ∷ b ∷ c ∷ ff ∷ gg ∷ hh ∷ rest) = if nat_eq a 0x7e && (nat_eq b 0x08 && nat_eq c 0x09) then octave_body device ff gg hh rest else None
octave_of _ = None

-- ---- what the receiver keeps

-- by channel
abbrev pub level : ℕ → List ℕ
level c = replicate 12 8192

abbrev pub retuned_by : Option OctaveTuning → (ℕ → List ℕ) → ℕ → List ℕ
retuned_by None values c = values c
retuned_by (Some m) values c = if m.channels c then m.values else values c

abbrev pub octaves_heard : (ℕ → List ℕ) → MidiWhat → ℕ → List ℕ
octaves_heard values (SysexOf lead bytes) c = if nat_eq lead 0xf0 then retuned_by (octave_of bytes) values c else values c
octaves_heard values _ c = values c

-- all values are level at first and after a reset
abbrev pub octaves_next : (ℕ → List ℕ) → MidiWhat → Doing → ℕ → List ℕ
octaves_next values w Resets c = level c
octaves_next values w d c = octaves_heard values w c

abbrev pub octaves_after : (ℕ → List ℕ) → List MidiEvent → ℕ → List ℕ
octaves_after values [] = values
octaves_after values (e ∷ es) = octaves_after (octaves_next values e.what (doing e.what)) es

-- ---- its played pitch, and the bound of the octave route

-- by how much a value moves a note: 390,625,000 grains are a step of 1/8192 semitone
abbrev pub octave_moves : ℕ → ℤ
octave_moves value = pos 390625000 *ℤ (pos value -ℤ pos 8192)

abbrev pub octave_of_key : List ℕ → ℕ → ℕ
octave_of_key values key = get_or values (key % 12) 8192

-- the value of the key's class moves a note where its channel has selected no tuning program
abbrev pub octave_shift : Option ℕ → List ℕ → ℕ → ℤ
octave_shift (Some p) values key = pos 0
octave_shift None values key = octave_moves (octave_of_key values key)

abbrev pub octave_played : List MidiEvent → Note → ℤ
octave_played es n =
    let r = after es in
    played r n +ℤ octave_shift (selected_of r.tuning (governor r.music.zones n.channel)) (octaves_after level es n.channel) n.key

-- within one and a half steps of 1/8192 semitone and a thousandth of a cent
abbrev pub octave_device : Device
octave_device = record { pitch = octave_played; bound = 585937500 + 32000000 }
