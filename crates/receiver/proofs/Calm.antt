-- In a player that stands for a list of events no note is left that nothing holds.
use Rattle.std.proofs.Common.{◌≡◌, ℕ, suc, List, [], ◌∷◌, Bool, true, false, cond, ◌&&◌, Some, refl, ap, sym, ◌∙◌, map, drop, get_or}
use Rattle.mt_base.specs.Midi.{MidiEvent}
use Rattle.midi_model.specs.MusicLaws.{IsSettled, EventsSettle}
use Rattle.midi_model.specs.Notes.{Note, sounds, is_at}
use Rattle.midi_model.specs.Music.{Music, quiet, settle_note, step, play}
use Rattle.midi_model.specs.Receiver.{after}
use Rattle.receiver.specs.declared.player.Player.{Player}
use Rattle.receiver.specs.Reach.{IsCalm}
use Rattle.receiver.specs.Sounding.{sounding_from}
use Rattle.receiver.specs.Stands.{PlayerStands, slot}
use Rattle.receiver.specs.Turns.{kept, settled_by}
use Rattle.receiver.proofs.Here.{Slot}
use Rattle.receiver.proofs.Slots.{music_after}
use Rattle.receiver.proofs.Stepping.{same_set_up}

play_settles : EventsSettle → (m : Music) (es : List MidiEvent) → IsSettled m → IsSettled (play m es)
play_settles law m [] h = h
play_settles law m (e ∷ es) h = play_settles law (step m e) es (law m e h)

all_settled : EventsSettle → (es : List MidiEvent) → IsSettled (after es).music
all_settled law es = rw (music_after es) (play_settles law quiet es (record { notes = λ t. refl; channels = refl }))

sounding_kept : (f : Note → Note) (i : ℕ) (ns : List Note) (c k : ℕ) → map f ns ≡ ns → kept f (sounding_from i ns c k) ≡ sounding_from i ns c k
sounding_kept f i [] c k e = refl
sounding_kept f i (n ∷ ns) c k e =
    pick (is_at c k n) (sounds n) (sounding_from (suc i) ns c k) refl (sounding_kept f (suc i) ns c k (ap (drop 1) e))
  where
    here : f n ≡ n
    here = ap (λ xs. get_or xs 0 n) e

    pick : (a b : Bool) (o : Slot) → sounds n ≡ b → kept f o ≡ o → kept f (cond (a && b) (Some (i, n)) o) ≡ cond (a && b) (Some (i, n)) o
    pick true true o s h = rw (here, s) refl
    pick true false o s h = h
    pick false b o s h = h

pub calm_of : (r : Player) (es : List MidiEvent) → PlayerStands r es → EventsSettle → IsCalm r
calm_of r es h law t c k cl kl =
    let m = (after es).music in
    ap (λ u. kept (settled_by u t) (slot r c k)) (same_set_up r es h)
    ∙ ap (kept (settle_note m.channels m.zones t)) (h.notes c k cl kl)
    ∙ sounding_kept (settle_note m.channels m.zones t) 1 m.notes c k ((all_settled law es).notes t)
    ∙ sym (h.notes c k cl kl)
