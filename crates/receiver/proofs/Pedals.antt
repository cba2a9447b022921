-- What the sostenuto pedal and the channel's messages to all notes do to the note of one key.
use Rattle.std.proofs.Common.{◌≡◌, ℕ, Bool, true, false, cond, ◌&&◌, nat_eq, Some, None, refl, ap}
use Rattle.midi_model.specs.Zones.{Zones, governor}
use Rattle.midi_model.specs.Notes.{Note, sounds, is_pedal_down, sostenuto, hears, ending, releasing, end_all, release_all}
use Rattle.receiver.specs.Following.{turn_of}
use Rattle.receiver.specs.Turns.{kept}
use Rattle.receiver.specs.declared.turn.Turn.TheVariants.{SoundOff, NotesOff, Capture, Free}
use Rattle.receiver.proofs.Here.{Slot, IsHere}

pub goes_down : (z : Zones) (c b v t : ℕ) (o : Slot) → is_pedal_down b ≡ false → is_pedal_down v ≡ true → kept (sostenuto z c b v) o ≡ kept (turn_of Capture t z c) o
goes_down z c b v t None e f = refl
goes_down z c b v t (Some x) e f = rw (e, f) refl

pub goes_up : (z : Zones) (c b v t : ℕ) (o : Slot) → is_pedal_down b ≡ true → is_pedal_down v ≡ false → kept (sostenuto z c b v) o ≡ kept (turn_of Free t z c) o
goes_up z c b v t None e f = refl
goes_up z c b v t (Some x) e f = rw (e, f) refl

-- the note stays where it was
still : (x : ℕ × Note) (a : Bool) → sounds x.1 ≡ true → cond (sounds (cond a x.1 x.1)) (Some (x.0, cond a x.1 x.1)) None ≡ Some x
still x true s = rw s refl
still x false s = rw s refl

pub stays_down : (z : Zones) (c b v d k : ℕ) (o : Slot) → IsHere d k o → is_pedal_down b ≡ true → is_pedal_down v ≡ true → kept (sostenuto z c b v) o ≡ o
stays_down z c b v d k None h e f = refl
stays_down z c b v d k (Some x) (p, q, s) e f = rw (e, f) (still x (nat_eq (governor z x.1.channel) c && sounds x.1) s)

pub stays_up : (z : Zones) (c b v d k : ℕ) (o : Slot) → IsHere d k o → is_pedal_down b ≡ false → is_pedal_down v ≡ false → kept (sostenuto z c b v) o ≡ o
stays_up z c b v d k None h e f = refl
stays_up z c b v d k (Some x) (p, q, s) e f = rw (e, f) (still x (nat_eq (governor z x.1.channel) c && sounds x.1) s)

sounding_only : (x : Note) (a : Bool) (f : Note → Note) → sounds x ≡ true → cond (a && sounds x) (f x) x ≡ cond a (f x) x
sounding_only x true f s = rw s refl
sounding_only x false f s = refl

pub all_off : (z : Zones) (c t d k : ℕ) (o : Slot) → IsHere d k o → kept (turn_of SoundOff t z c) o ≡ kept (end_all t z c) o
all_off z c t d k None h = refl
all_off z c t d k (Some x) (p, q, s) = ap (λ y. cond (sounds y) (Some (x.0, y)) None) (sounding_only x.1 (hears z c x.1) (ending t) s)

pub all_up : (z : Zones) (c t d k : ℕ) (o : Slot) → IsHere d k o → kept (turn_of NotesOff t z c) o ≡ kept (release_all t z c) o
all_up z c t d k None h = refl
all_up z c t d k (Some x) (p, q, s) = ap (λ y. cond (sounds y) (Some (x.0, y)) None) (sounding_only x.1 (hears z c x.1) (releasing t 64) s)
