-- The messages of the MIDI Tuning Standard that are written, by their bytes after F0, F7 at the end.
use Rattle.std.specs.Prelude.{ℕ, ◌+◌, ◌/◌, ◌%◌, ◌≤◌, List, [], ◌∷◌, ◌++◌, codes, Option, Some, None, IfSome}
use Rattle.std.specs.List.{flat_map}
use Rattle.mt_base.specs.declared.event.Msg.{Msg}
use Rattle.mt_base.specs.declared.event.Msg.TheVariants.{Control}
use Rattle.midi_model.specs.Sysex.{xor_all}

-- a value in steps of 1/16384 semitone above key 0 as three bytes: the semitone, then the rest, high first
abbrev pub value_bytes : Option ℕ → List ℕ
value_bytes (Some v) = (v / 16384) ∷ ((v / 128) % 128) ∷ (v % 128) ∷ []
value_bytes None = 0x7f ∷ 0x7f ∷ 0x7f ∷ []

-- what three bytes can say: 7F 7F 7F is none
abbrev pub IsTuningValue : Option ℕ → Type 0
IsTuningValue o = IfSome o (λ v. v ≤ 2097150)

-- the name that this project's dumps have: its own, and blanks
abbrev pub dump_name : List ℕ
dump_name = codes "mtune           "

-- a bulk dump as far as its checksum, to all devices
abbrev pub dump_body : ℕ → List (Option ℕ) → List ℕ
dump_body program values = 0x7e ∷ 0x7f ∷ 0x08 ∷ 0x01 ∷ program ∷ dump_name ++ flat_map value_bytes values

abbrev pub dump_bytes : ℕ → List (Option ℕ) → List ℕ
dump_bytes program values = dump_body program values ++ xor_all (dump_body program values) ∷ 0xf7 ∷ []

-- a change of one key, to all devices, in real time
abbrev pub change_bytes : ℕ → ℕ → ℕ → List ℕ
change_bytes program key value = 0x7f ∷ 0x7f ∷ 0x08 ∷ 0x02 ∷ program ∷ 0x01 ∷ key ∷ value_bytes (Some value) ++ 0xf7 ∷ []

-- selects a tuning program (registered parameter 3), and no parameter afterwards
abbrev pub select_of : ℕ → ℕ → List Msg
select_of channel program = Control channel 101 0 ∷ Control channel 100 3 ∷ Control channel 6 program
    ∷ Control channel 101 127 ∷ Control channel 100 127 ∷ []

-- the keys from k on, with their values
abbrev pub numbered : ℕ → List (Option ℕ) → List (ℕ × Option ℕ)
numbered k [] = []
numbered k (v ∷ vs) = (k, v) ∷ numbered (k + 1) vs
