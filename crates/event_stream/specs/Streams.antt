-- What the streams of this crate mean: all their events, and those that are still to come.
use Rattle.std.specs.Prelude.{List, map, drop}
use Rattle.mt_base.specs.Midi.{MidiEvent, view}
use Rattle.event_stream.specs.declared.list.ListStream.{ListStream}

abbrev pub all_of_list : ListStream → List MidiEvent
all_of_list s = map view s.events.now

abbrev pub rest_of_list : ListStream → List MidiEvent
rest_of_list s = map view (drop s.next s.events.now)
