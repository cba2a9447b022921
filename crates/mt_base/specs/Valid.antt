-- What an event may hold (MIDI 1.0 Detailed Specification; Standard MIDI File 1.0).
use Rattle.std.specs.Prelude.{◌≡◌, ◌≤◌, ◌<◌, ◌⊎◌, ◌^◌, length}
use Rattle.mt_base.specs.declared.event.Msg.{Msg}
use Rattle.mt_base.specs.declared.event.Msg.TheVariants.{NoteOn, NoteOff, KeyPressure, Control, Program, Pressure, Bend}
use Rattle.mt_base.specs.Midi.{MidiWhat, Says, SysexOf, MetaOf, MidiEvent}

-- seven bits a data byte, fourteen a bend
abbrev pub IsValidMsg : Msg → Type 0
IsValidMsg (NoteOn c key velocity) = (c ≤ 15) × (key ≤ 127) × (velocity ≤ 127)
IsValidMsg (NoteOff c key velocity) = (c ≤ 15) × (key ≤ 127) × (velocity ≤ 127)
IsValidMsg (KeyPressure c key value) = (c ≤ 15) × (key ≤ 127) × (value ≤ 127)
IsValidMsg (Control c number value) = (c ≤ 15) × (number ≤ 127) × (value ≤ 127)
IsValidMsg (Program c program) = (c ≤ 15) × (program ≤ 127)
IsValidMsg (Pressure c value) = (c ≤ 15) × (value ≤ 127)
IsValidMsg (Bend c value) = (c ≤ 15) × (value ≤ 16383)

-- Lengths fit in a variable-length quantity of four bytes; an end of track has no content.
abbrev pub IsValidWhat : MidiWhat → Type 0
IsValidWhat (Says m) = IsValidMsg m
IsValidWhat (SysexOf lead bytes) = ((lead ≡ 0xf0) ⊎ (lead ≡ 0xf7)) × (length bytes < 2 ^ 28)
IsValidWhat (MetaOf kind bytes) = (length bytes < 2 ^ 28) × (kind ≡ 0x2f → length bytes ≡ 0)

-- Ticks end at 268,435,455: this project's own limit.
pub record IsValidEvent (e : MidiEvent) : Type 0 where
  pub tick : e.tick < 2 ^ 28
  pub what : IsValidWhat e.what
