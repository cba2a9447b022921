-- Notes that fade, and events that begin none.
use Rattle.std.proofs.Common.{◌≡◌, ℕ, List, [], ◌∷◌, refl}
use Rattle.std.specs.List.{AllByRecursion}
use Rattle.mt_base.specs.declared.event.Msg.{Msg}
use Rattle.midi_model.specs.Sysex.{Doing, Plays, Resets, Tunes, Nothing}
use Rattle.midi_model.specs.Notes.{Note, Fades}
use Rattle.midi_model.specs.Music.{Music}
use Rattle.midi_model.specs.MusicLaws.{AllFade, begun_by}

pub faded : (R : Note → Type 0) → ((a b : Note) → Fades a b → R a → R b) → (ns xs : List Note) → AllFade ns xs → AllByRecursion R ns →
    AllByRecursion R xs
faded R f [] [] h k = tt
faded R f [] (x ∷ xs) h k = absurd h
faded R f (n ∷ ns) [] h k = absurd h
faded R f (n ∷ ns) (x ∷ xs) h k = (f n x h.0 k.0, faded R f ns xs h.1 k.1)

pub silent_begun : (m : Music) (t : ℕ) (d : Doing) → ((msg : Msg) → d ≡ Plays msg → ⊥) → begun_by m t d ≡ []
silent_begun m t (Plays msg) h = absurd (h msg refl)
silent_begun m t Resets h = refl
silent_begun m t (Tunes r) h = refl
silent_begun m t Nothing h = refl
