-- What a cursor gives.
use Rattle.std.specs.Prelude.{List, map}
use Rattle.smf_read.specs.declared.cursor.Cursor.{Cursor}
use Rattle.mt_base.specs.Midi.{MidiEvent, placed}
use Rattle.midi_model.specs.Reading.{rest_of_track, track_in}

-- the events that a cursor has left
abbrev pub remaining : Cursor → List MidiEvent
remaining c = map (placed c.track) (rest_of_track c.running c.tick c.rest.now).events

-- all its events
abbrev pub all_of : Cursor → List MidiEvent
all_of c = map (placed c.track) (track_in c.bytes.now).events
