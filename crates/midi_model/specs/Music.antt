-- The receiver without its tuning: sixteen channels, the zones, and all notes in the order of their note ons; what one event
-- does to them, and a list of events (this project's profile of MIDI 1.0 and MPE 1.0).
use Rattle.std.specs.Prelude.{ℕ, zero, suc, List, [], ◌∷◌, ◌++◌, Bool, false, ◌&&◌, ◌||◌, not, nat_eq, if◌then◌else◌, Option, Some, None, is_some, map, min, set, get_or, replicate}
use Rattle.mt_base.specs.Midi.{MidiEvent, channel_of}
use Rattle.mt_base.specs.declared.event.Msg.{Msg}
use Rattle.mt_base.specs.declared.event.Msg.TheVariants.{NoteOn, NoteOff, KeyPressure, Control}
use Rattle.midi_model.specs.Channel.{Role, Stored, EntryHigh, AllSoundOff, ResetControllers, AllNotesOff}
use Rattle.midi_model.specs.Sysex.{Doing, Plays, Resets, Tunes, Nothing, doing}
use Rattle.midi_model.specs.Channel.{Channel, State, default_channel, control_of, role, Target, ZoneSize, target, apply}
use Rattle.midi_model.specs.Zones.{Zones, no_zones, governor, zones_with, bend_ranges}
use Rattle.midi_model.specs.Notes.{Note, sounds, is_at, is_pedal_down, cut_off, release_key, with_pressure, sostenuto, without_pressure, end_all, release_all, ending}

pub record Music : Type 0 where
  pub channels : List Channel
  pub zones : Zones
  pub notes : List Note

-- at the start: defaults, no zone, no note
abbrev pub quiet : Music
quiet = record { channels = replicate 16 default_channel; zones = no_zones; notes = [] }

abbrev pub channel_at : Music → ℕ → Channel
channel_at m c = get_or m.channels c default_channel

-- the zone that data entry of RPN 6 asks for, by its master and its size; more than 15 members count as 15, and on channels
-- other than 1 and 16 it asks for none
abbrev pub asked : ℕ → ℕ → Target → Option (ℕ × ℕ)
asked c v ZoneSize = if nat_eq c 0 || nat_eq c 15 then Some (c, min v 15) else None
asked c v _ = None

abbrev pub asked_by : Music → ℕ → ℕ → Role → Option (ℕ × ℕ)
asked_by m c v EntryHigh = asked c v (target (channel_at m c).selection)
asked_by m c v _ = None

abbrev pub asks : Music → Msg → Option (ℕ × ℕ)
asks m (Control c n v) = asked_by m c v (role n)
asks m _ = None

abbrev pub zones_after : Music → Msg → Zones
zones_after m msg = zones_with (asks m msg) m.zones

abbrev pub channels_after : Music → Msg → List Channel
channels_after m msg =
    let c = channel_of msg in
    bend_ranges (asks m msg) (zones_after m msg) (set m.channels c (apply (channel_at m c) msg))

-- the note that a note on begins
abbrev pub begun : Music → ℕ → ℕ → ℕ → ℕ → Note
begun m t c k v = record {
  channel = c;
  key = k;
  onset = t;
  velocity = v;
  voice = (channel_at m (governor m.zones c)).voice;
  release = None;
  captured = false;
  pressure = 0;
  ended = None;
}

-- what a controller does to the notes
abbrev pub notes_turned : Music → ℕ → ℕ → ℕ → ℕ → Role → List Note
notes_turned m t c n v Stored = if nat_eq n 66 then map (sostenuto m.zones c (control_of (channel_at m c) 66) v) m.notes else m.notes
notes_turned m t c n v ResetControllers = map (λ x. without_pressure c (sostenuto m.zones c (control_of (channel_at m c) 66) 0 x)) m.notes
notes_turned m t c n v AllSoundOff = map (end_all t m.zones c) m.notes
notes_turned m t c n v AllNotesOff = map (release_all t m.zones c) m.notes
notes_turned m t c n v _ = m.notes

-- what a message does to the notes; a note on with velocity 0 is a note off with velocity 64
abbrev pub notes_after : Music → ℕ → Msg → List Note
notes_after m t (NoteOn c k zero) = map (release_key t c k 64) m.notes
notes_after m t (NoteOn c k (suc v)) = map (cut_off t c k) m.notes ++ begun m t c k (suc v) ∷ []
notes_after m t (NoteOff c k v) = map (release_key t c k v) m.notes
notes_after m t (KeyPressure c k v) = map (with_pressure c k v) m.notes
notes_after m t (Control c n v) = notes_turned m t c n v (role n)
notes_after m t _ = m.notes

abbrev pub act : ℕ → Msg → Music → Music
act t msg m = record { channels = channels_after m msg; zones = zones_after m msg; notes = notes_after m t msg }

-- the value of the hold pedal, controller 64, that a note listens to
abbrev pub pedal : List Channel → Zones → Note → ℕ
pedal ss z n = control_of (get_or ss (governor z n.channel) default_channel) 64

-- whether nothing holds the note any more: its key is up, sostenuto doesn't hold it, and its hold pedal is up
abbrev pub is_over : List Channel → Zones → Note → Bool
is_over ss z n = is_some n.release && (not n.captured && not (is_pedal_down (pedal ss z n)))

abbrev pub settle_note : List Channel → Zones → ℕ → Note → Note
settle_note ss z t n = if is_over ss z n then ending t n else n

-- after each message every note that nothing holds ends
abbrev pub settle : ℕ → Music → Music
settle t m = record { channels = m.channels; zones = m.zones; notes = map (settle_note m.channels m.zones t) m.notes }

-- a reset: every note ends, and all has its defaults
abbrev pub reset : ℕ → Music → Music
reset t m = record { channels = quiet.channels; zones = quiet.zones; notes = map (ending t) m.notes }

abbrev pub advance : ℕ → Doing → Music → Music
advance t (Plays msg) m = settle t (act t msg m)
advance t Resets m = reset t m
advance t (Tunes r) m = m
advance t Nothing m = m

-- one event
abbrev pub step : Music → MidiEvent → Music
step m e = advance e.tick (doing e.what) m

-- a list of events
abbrev pub play : Music → List MidiEvent → Music
play m [] = m
play m (e ∷ es) = play (step m e) es

-- the pressure of a key: that of the note that sounds there
abbrev pub key_pressure : List Note → ℕ → ℕ → ℕ
key_pressure [] c k = 0
key_pressure (n ∷ ns) c k = if is_at c k n && sounds n then n.pressure else key_pressure ns c k

abbrev pub key_pressures : List Note → ℕ → ℕ → ℕ → List ℕ
key_pressures ns c k zero = []
key_pressures ns c k (suc n) = key_pressure ns c k ∷ key_pressures ns c (suc k) n

-- a channel's whole state
abbrev pub state_at : Music → ℕ → State
state_at m c = record { own = channel_at m c; keys = key_pressures m.notes c 0 128 }
