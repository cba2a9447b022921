-- System exclusive messages that the receiver knows, by their bytes after F0, F7 at the end.
use Rattle.std.specs.Prelude.{ℕ, ◌+◌, ◌*◌, ◌-◌, ◌/◌, List, [], ◌∷◌, Bool, true, false, ◌&&◌, ◌||◌, nat_eq, nat_lt, if◌then◌else◌, Option, Some, None, length, take, drop, get_or, bit_xor}
use Rattle.mt_base.specs.Midi.{MidiWhat, Says, SysexOf, MetaOf}
use Rattle.mt_base.specs.declared.event.Msg.{Msg}

-- what is wanted of one byte: that byte, any, or any with that high half
pub data Wanted : Type 0 where
  Exactly : ℕ → Wanted
  Any : Wanted
  HighHalf : ℕ → Wanted

abbrev pub is_wanted : Wanted → ℕ → Bool
is_wanted (Exactly n) b = nat_eq b n
is_wanted Any b = true
is_wanted (HighHalf n) b = nat_eq (b / 16) n

-- whether the bytes begin so
abbrev pub begins : List Wanted → List ℕ → Bool
begins [] bs = true
begins (w ∷ ws) [] = false
begins (w ∷ ws) (b ∷ bs) = is_wanted w b && begins ws bs

-- whether the bytes are just these
abbrev pub spells : List Wanted → List ℕ → Bool
spells ws bs = begins ws bs && nat_eq (length bs) (length ws)

-- The five resets: General MIDI on and off and General MIDI 2 on (universal non-real time messages, of any
-- device), and those of two makers, the second for any channel of theirs.
abbrev pub is_reset : List ℕ → Bool
is_reset bs = spells (Exactly 0x7e ∷ Any ∷ Exactly 0x09 ∷ Exactly 0x01 ∷ Exactly 0xf7 ∷ []) bs
    || spells (Exactly 0x7e ∷ Any ∷ Exactly 0x09 ∷ Exactly 0x02 ∷ Exactly 0xf7 ∷ []) bs
    || spells (Exactly 0x7e ∷ Any ∷ Exactly 0x09 ∷ Exactly 0x03 ∷ Exactly 0xf7 ∷ []) bs
    || spells (Exactly 0x41 ∷ Exactly 0x10 ∷ Exactly 0x42 ∷ Exactly 0x12 ∷ Exactly 0x40 ∷ Exactly 0x00 ∷ Exactly 0x7f ∷ Exactly 0x00 ∷ Exactly 0x41 ∷ Exactly 0xf7 ∷ []) bs
    || spells (Exactly 0x43 ∷ HighHalf 1 ∷ Exactly 0x4c ∷ Exactly 0x00 ∷ Exactly 0x00 ∷ Exactly 0x7e ∷ Exactly 0x00 ∷ Exactly 0xf7 ∷ []) bs

-- whether the bytes begin as a message of the MIDI Tuning Standard: universal, of any device, sub-identity 08
abbrev pub is_tuning : List ℕ → Bool
is_tuning bs = begins (Exactly 0x7e ∷ Any ∷ Exactly 0x08 ∷ []) bs || begins (Exactly 0x7f ∷ Any ∷ Exactly 0x08 ∷ []) bs

-- a tuning message (MIDI Tuning Standard): its program, and the new value of each key that it names, None where the key stays
pub record Retune : Type 0 where
  pub program : ℕ
  pub keys : List (ℕ × Option ℕ)

-- Three bytes as a value, in steps of 1/16384 semitone above key 0: the semitone, then the rest, high first.
-- 7F 7F 7F is none.
abbrev pub value_at : ℕ → ℕ → ℕ → Option ℕ
value_at a b c = if nat_eq a 0x7f && (nat_eq b 0x7f && nat_eq c 0x7f) then None else Some (16384 * a + 128 * b + c)

-- three bytes a key, from key k on
abbrev pub key_values : ℕ → List ℕ → List (ℕ × Option ℕ)
key_values k (a ∷ b ∷ c ∷ bs) = (k, value_at a b c) ∷ key_values (k + 1) bs
key_values k _ = []

-- four bytes a change: the key and its value
abbrev pub changes : List ℕ → List (ℕ × Option ℕ)
changes (k ∷ a ∷ b ∷ c ∷ bs) = (k, value_at a b c) ∷ changes bs
changes _ = []

-- whether all are data bytes
abbrev pub all_low : List ℕ → Bool
all_low [] = true
all_low (b ∷ bs) = nat_lt b 128 && all_low bs

-- the exclusive or of all bytes
abbrev pub xor_all : List ℕ → ℕ
xor_all [] = 0
xor_all (b ∷ bs) = bit_xor b (xor_all bs)

-- A bulk tuning dump: 7E, a device, 08 01, the program, sixteen bytes of a name, three bytes for each of 128 keys,
-- a checksum and F7; all but the last are data bytes, and the checksum is the exclusive or of all before it.
abbrev pub is_dump : List ℕ → Bool
is_dump bs = nat_eq (length bs) 407 && (begins (Exactly 0x7e ∷ Any ∷ Exactly 0x08 ∷ Exactly 0x01 ∷ []) bs
    && (all_low (take 406 bs) && (nat_eq (get_or bs 405 0) (xor_all (take 405 bs)) && nat_eq (get_or bs 406 0) 0xf7)))

-- A single note tuning change: 7F, a device, 08 02, the program, how many changes, four bytes for each, and F7; all
-- but the last are data bytes.
abbrev pub is_change : List ℕ → Bool
is_change bs = nat_eq (length bs) (7 + 4 * get_or bs 5 0) && (begins (Exactly 0x7f ∷ Any ∷ Exactly 0x08 ∷ Exactly 0x02 ∷ []) bs
    && (all_low (take (length bs - 1) bs) && nat_eq (get_or bs (length bs - 1) 0) 0xf7))

abbrev pub tuning_of : List ℕ → Option Retune
tuning_of bs = if is_dump bs then Some (record { program = get_or bs 4 0; keys = key_values 0 (take 384 (drop 21 bs)) })
    else if is_change bs then Some (record { program = get_or bs 4 0; keys = changes (take (length bs - 7) (drop 6 bs)) })
    else None

-- what an event is to the receiver
pub data Doing : Type 0 where
  Plays : Msg → Doing
  Resets : Doing
  Tunes : Retune → Doing
  Nothing : Doing

abbrev pub tunes : Option Retune → Doing
tunes (Some r) = Tunes r
tunes None = Nothing

abbrev pub doing : MidiWhat → Doing
doing (Says m) = Plays m
doing (SysexOf lead bs) = if nat_eq lead 0xf0 then (if is_reset bs then Resets else tunes (tuning_of bs)) else Nothing
doing (MetaOf kind bs) = Nothing
