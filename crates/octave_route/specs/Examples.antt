-- A table, keys and events by which the definitions are tried.
use Rattle.std.specs.Prelude.{ℕ, ◌+◌, ◌*◌, ◌^◌, pos, List, [], ◌∷◌, true, Option, Some, replicate}
use Rattle.mt_base.specs.declared.event.Msg.TheVariants.{NoteOn}
use Rattle.mt_base.specs.Midi.{MidiWhat, Says, SysexOf, MetaOf, MidiEvent}
use Rattle.retune_model.specs.Options.{Options, ByDump}
use Rattle.octave_route.specs.Messages.{octave_bytes}
use Rattle.retune_model.specs.Table.{Bounds}

-- each key so many steps of 1/8192 semitone above its equal-tempered pitch as its number is
abbrev pub rising : ℕ → Option Bounds
rising key = Some (record { lo = pos (key * 3200000000000 + key * 390625000); hi = pos (key * 3200000000000 + key * 390625000) })

-- keys 57 and 69, both of class 9
abbrev pub two_keys : ℕ
two_keys = 2 ^ 57 + 2 ^ 69

abbrev pub at : ℕ → ℕ → MidiWhat → MidiEvent
at t track what = record { tick = t; track = track; what = what }

abbrev pub reset : MidiWhat
reset = SysexOf 240 (0x7e ∷ 0x7f ∷ 0x09 ∷ 0x01 ∷ 0xf7 ∷ [])

abbrev pub level_message : ℕ → MidiWhat
level_message channels = SysexOf 240 (octave_bytes channels (replicate 12 8192))

abbrev pub drums_kept : Options
drums_kept = record { route = ByDump; range = 2; keep_drums = true; program = 0; tail = 0 }

-- a note of the drums on port 0, and on port 1 a reset
abbrev pub before_notes : List MidiEvent
before_notes = at 0 0 (Says (NoteOn 9 36 64)) ∷ at 0 1 (MetaOf 0x21 (1 ∷ [])) ∷ at 0 1 reset ∷ []
