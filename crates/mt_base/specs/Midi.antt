-- Events as data, without where their bytes lie in memory.
use Rattle.std.specs.Prelude.{ℕ, List, [], Bool, false, ◌==◌}
use Rattle.mt_base.specs.declared.event.Msg.{Msg}
use Rattle.mt_base.specs.declared.event.Msg.TheVariants.{NoteOn, NoteOff, KeyPressure, Control, Program, Pressure, Bend}
use Rattle.mt_base.specs.declared.event.What.{What}
use Rattle.mt_base.specs.declared.event.What.TheVariants.{Message, Sysex, Meta}
use Rattle.mt_base.specs.declared.event.Event.{Event}

-- What an event says (Standard MIDI File 1.0): a channel message, a system exclusive event with its lead byte,
-- F0 or F7, and what follows its length, or a meta event with its type and its content.
pub data MidiWhat : Type 0 where
  Says : Msg → MidiWhat
  SysexOf : ℕ → List ℕ → MidiWhat
  MetaOf : ℕ → List ℕ → MidiWhat

-- an event of one track, at its tick
pub record Timed : Type 0 where
  pub tick : ℕ
  pub what : MidiWhat

-- an event of a file
pub record MidiEvent : Type 0 where
  pub tick : ℕ
  pub track : ℕ
  pub what : MidiWhat

-- the same event, in its track
abbrev pub placed : ℕ → Timed → MidiEvent
placed track e = record { tick = e.tick; track = track; what = e.what }

-- what the program's values stand for
abbrev pub view_what : What → MidiWhat
view_what (Message m) = Says m
view_what (Sysex lead bytes) = SysexOf lead bytes.now
view_what (Meta kind bytes) = MetaOf kind bytes.now

abbrev pub view : Event → MidiEvent
view e = record { tick = e.tick; track = e.track; what = view_what e.what }

abbrev pub end_of_track : MidiWhat
end_of_track = MetaOf 0x2f []

-- whether the track ends here
abbrev pub is_end : MidiWhat → Bool
is_end (Says m) = false
is_end (SysexOf lead bytes) = false
is_end (MetaOf kind bytes) = kind == 0x2f

-- the channel that a message is about, 0 to 15
abbrev pub channel_of : Msg → ℕ
channel_of (NoteOn c key velocity) = c
channel_of (NoteOff c key velocity) = c
channel_of (KeyPressure c key value) = c
channel_of (Control c number value) = c
channel_of (Program c program) = c
channel_of (Pressure c value) = c
channel_of (Bend c value) = c
