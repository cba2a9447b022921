-- Nothing is left to settle, and nothing will be after any event; and music and receivers over lists of events.
use Rattle.std.proofs.Common.{◌≡◌, List, [], ◌∷◌, ◌++◌, refl}
use Rattle.mt_base.specs.Midi.{MidiEvent}
use Rattle.midi_model.specs.Music.{Music, quiet, step, play}
use Rattle.midi_model.specs.MusicLaws.{IsSettled, EventsSettle}
use Rattle.midi_model.specs.Receiver.{Receiver, receive, receive_all}

pub record Steady (m : Music) : Type 0 where
  pub now : IsSettled m
  pub later : EventsSettle

pub steady-quiet : EventsSettle → Steady quiet
steady-quiet later = record { now = record { notes = λ t. refl; channels = refl }; later = later }

pub steady-step : (m : Music) (e : MidiEvent) → Steady m → Steady (step m e)
steady-step m e h = record { now = h.later m e h.now; later = h.later }

pub steady-play : (m : Music) (es : List MidiEvent) → Steady m → Steady (play m es)
steady-play m [] h = h
steady-play m (e ∷ es) h = steady-play (step m e) es (steady-step m e h)

pub play-append : (m : Music) (xs ys : List MidiEvent) → play m (xs ++ ys) ≡ play (play m xs) ys
play-append m [] ys = refl
play-append m (x ∷ xs) ys = play-append (step m x) xs ys

pub receive_all-append : (r : Receiver) (xs ys : List MidiEvent) → receive_all r (xs ++ ys) ≡ receive_all (receive_all r xs) ys
receive_all-append r [] ys = refl
receive_all-append r (x ∷ xs) ys = receive_all-append (receive r x) xs ys

-- a receiver's music is the music that was played
pub music_all : (r : Receiver) (es : List MidiEvent) → (receive_all r es).music ≡ play r.music es
music_all r [] = refl
music_all r (e ∷ es) = music_all (receive r e) es
