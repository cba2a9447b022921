-- Events that are put into tracks one after the other.
use Rattle.std.specs.Prelude.{◌≡◌, ℕ, List, [], ◌∷◌, ◌++◌, set}
use Rattle.mt_base.specs.declared.event.Msg.{Msg}
use Rattle.mt_base.specs.Midi.{MidiEvent, Says, SysexOf}
use Rattle.midi_model.specs.Writing.{Written, with_event}
use Rattle.midi_model.specs.Merged.{timed}
use Rattle.event_stream.specs.Distributed.{MayPut, text_at}

-- the tracks with one event more
abbrev pub put_one : List Written → MidiEvent → List Written
put_one texts e = set texts e.track (with_event (text_at texts e.track) (timed e))

unfoldable pub put_all : List Written → List MidiEvent → List Written
put_all texts [] = texts
put_all texts (e ∷ es) = put_all (put_one texts e) es

-- each event may be put behind those before it
unfoldable pub AllMayPut : List Written → List MidiEvent → Type 0
AllMayPut texts [] = Unit {0}
AllMayPut texts (e ∷ es) = MayPut texts e × AllMayPut (put_one texts e) es

-- Of some events the rest is still to be put into tracks that were old at first.
pub record IsPut (old : List Written) (es rest : List MidiEvent) (new : List Written) : Type 0 where
  pub done : List MidiEvent
  pub split : es ≡ done ++ rest
  pub put : new ≡ put_all old done

-- a front of some events was put
pub record IsFront (old : List Written) (es : List MidiEvent) (new : List Written) : Type 0 where
  pub rest : List MidiEvent
  pub front : IsPut old es rest new

-- messages, and system exclusive messages, at the tick and in the track of an event
abbrev pub said_at : MidiEvent → List Msg → List MidiEvent
said_at e [] = []
said_at e (m ∷ ms) = record { tick = e.tick; track = e.track; what = Says m } ∷ said_at e ms

abbrev pub sent_at : MidiEvent → List (List ℕ) → List MidiEvent
sent_at e [] = []
sent_at e (b ∷ bs) = record { tick = e.tick; track = e.track; what = SysexOf 240 b } ∷ sent_at e bs
