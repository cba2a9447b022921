-- Laws of ports: which port an event is of, and what the music of a port is at a position of the file.
use Rattle.std.specs.Prelude.{◌≡◌, ◌++◌, ℕ, suc, List, [], ◌∷◌, nat_eq, if◌then◌else◌, take, length}
use Rattle.std.specs.List.{AllByRecursion}
use Rattle.mt_base.specs.Midi.{MidiEvent}
use Rattle.midi_model.specs.Merged.{of_track}
use Rattle.midi_model.specs.Order.{AreInOrder}
use Rattle.midi_model.specs.Music.{quiet, play, step}
use Rattle.retune_model.specs.Ports.{NamesNoOther, of_port, events_on, unnumbered, last_named, event_at, events_to, music_at, port_at, AreTimed}

-- The port of an event is the one that its track named last, up to and including the event, and 0 where it named none.
abbrev pub TrackNamesThePort : Type 0
TrackNamesThePort = (z : ℕ) (es : List MidiEvent) (e : MidiEvent) (later : List MidiEvent) →
    event_at (of_port z (es ++ e ∷ later)) (suc (length es)) ≡ (if nat_eq (last_named 0 (of_track e.track (es ++ e ∷ []))) z then e ∷ [] else [])

-- In a file in which no event names another port than the first, all events are of that port.
abbrev pub OnePortHasAll : Type 0
OnePortHasAll = (es : List MidiEvent) → AllByRecursion NamesNoOther es → events_on 0 es ≡ es

-- The events of a port up to a position are those among the first so many of the file, and the music of the port is played by them.
abbrev pub EventsToAPosition : Type 0
EventsToAPosition = (z : ℕ) (es : List MidiEvent) (k : ℕ) → events_to k (of_port z es) ≡ unnumbered (of_port z (take k es))

abbrev pub MusicAtAPosition : Type 0
MusicAtAPosition = (z : ℕ) (es : List MidiEvent) (k : ℕ) → music_at (of_port z es) k ≡ play quiet (unnumbered (of_port z (take k es)))

-- The music of a port changes at its own events alone.
abbrev pub OwnEventsPlay : Type 0
OwnEventsPlay = (z : ℕ) (es : List MidiEvent) (k : ℕ) (e : MidiEvent) → event_at (of_port z es) (suc k) ≡ e ∷ [] → music_at (of_port z es) (suc k) ≡ step (music_at (of_port z es) k) e

abbrev pub OtherEventsDont : Type 0
OtherEventsDont = (z : ℕ) (es : List MidiEvent) (k : ℕ) → event_at (of_port z es) (suc k) ≡ [] → music_at (of_port z es) (suc k) ≡ music_at (of_port z es) k

-- Where the events of a file come in the order of their ticks, those of each port stand at their positions and ticks.
abbrev pub PortsAreTimed : Type 0
PortsAreTimed = (z : ℕ) (es : List MidiEvent) → AreInOrder 0 es → AreTimed (port_at es z)
