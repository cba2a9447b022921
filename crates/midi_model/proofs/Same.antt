-- Music doesn't hear tuning.
use Rattle.std.proofs.Common.{◌≡◌, List, [], ◌∷◌, refl, ap, sym, ◌∙◌}
use Rattle.mt_base.specs.Midi.{MidiEvent}
use Rattle.midi_model.specs.Music.{play}
use Rattle.midi_model.specs.Receiver.{Receiver, receive, receive_all}

-- a receiver's music is the music that was played
pub music_all : (r : Receiver) (es : List MidiEvent) → (receive_all r es).music ≡ play r.music es
music_all r [] = refl
music_all r (e ∷ es) = music_all (receive r e) es

pub same_after_all : (r s : Receiver) (es : List MidiEvent) → r.music ≡ s.music → (receive_all r es).music ≡ (receive_all s es).music
same_after_all r s es h = music_all r es ∙ ap (λ m. play m es) h ∙ sym (music_all s es)
