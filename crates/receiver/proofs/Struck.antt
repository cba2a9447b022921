-- A note on whose velocity isn't 0.
use Rattle.std.proofs.Common.{◌≡◌, ◌≢◌, ◌&&◌, ℕ, zero, suc, refl, cond, nat_eq, true, Some}
use Rattle.mt_base.specs.declared.event.Msg.TheVariants.{NoteOn}
use Rattle.midi_model.specs.Music.{Music, begun}
use Rattle.receiver.specs.Turns.{acted, begins_by}
use Rattle.receiver.proofs.Here.{Slot}

pub strikes_note : (m : Music) (next t c key v d k : ℕ) (o : Slot) → v ≢ 0 → acted m next t (NoteOn c key v) d k o ≡ cond (nat_eq d c && nat_eq k key) (Some (next, begun m t c key v)) o
strikes_note m next t c key zero d k o some = absurd (some refl)
strikes_note m next t c key (suc v) d k o some = refl

pub begins_note : (c key v : ℕ) → v ≢ 0 → begins_by (NoteOn c key v) ≡ true
begins_note c key zero some = absurd (some refl)
begins_note c key (suc v) some = refl
