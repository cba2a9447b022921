-- Laws of a receiver: what holds after any list of events, and what its music and its tuning don't hear of each other.
use Rattle.std.specs.Prelude.{◌≡◌, ◌≢◌, ◌≤◌, ℕ, List, false}
use Rattle.std.specs.List.{AllByRecursion}
use Rattle.mt_base.specs.Midi.{MidiEvent}
use Rattle.midi_model.specs.Sysex.{Resets, doing}
use Rattle.midi_model.specs.Zones.{AreApart}
use Rattle.midi_model.specs.Notes.{sounding_on}
use Rattle.midi_model.specs.Receiver.{Receiver, receive, receive_all, after}
use Rattle.midi_model.specs.Order.{AreInOrder, EndsInTime, is_about_tuning}

-- at most one note sounds on a key of a channel
abbrev pub OneNoteSoundsOnAKey : Type 0
OneNoteSoundsOnAKey = (es : List MidiEvent) (c k : ℕ) → sounding_on c k (after es).music.notes ≤ 1

-- the zones share no channel
abbrev pub ZonesStayApart : Type 0
ZonesStayApart = (es : List MidiEvent) → AreApart (after es).music.zones

-- where the events come in the order of their ticks, no note ends before it began
abbrev pub NotesEndInTime : Type 0
NotesEndInTime = (es : List MidiEvent) → AreInOrder 0 es → AllByRecursion EndsInTime (after es).music.notes

-- two receivers with the same music have the same after any event that is no tuning message and selects no tuning program
abbrev pub MusicIsAlone : Type 0
MusicIsAlone = (r s : Receiver) (e : MidiEvent) → r.music ≡ s.music
    → is_about_tuning r.music (doing e.what) ≡ false → (receive r e).music ≡ (receive s e).music

-- after such an event, where it is no reset, the tuning is as it was
abbrev pub TuningIsKept : Type 0
TuningIsKept = (r : Receiver) (e : MidiEvent) → is_about_tuning r.music (doing e.what) ≡ false → doing e.what ≢ Resets
    → (receive r e).tuning ≡ r.tuning

-- two receivers with the same music have the same after any events
abbrev pub MusicIsAloneAlways : Type 0
MusicIsAloneAlways = (r s : Receiver) (es : List MidiEvent) → r.music ≡ s.music
    → (receive_all r es).music ≡ (receive_all s es).music
