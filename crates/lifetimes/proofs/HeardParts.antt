-- What a receiver hears that isn't given the messages of kept drums: on the retuned channels what the whole port's music has, and no note
-- of the drums.
use Rattle.std.proofs.Common.{◌≡◌, ◌≢◌, ◌∙◌, ℕ, zero, suc, List, [], ◌∷◌, Bool, true, false, cond, not, ◌&&◌, nat_eq, Option, Some, None, refl, sym, ap}
use Rattle.std.specs.List.{AllByRecursion}
use Rattle.std.specs.Option.{option_map}
use Rattle.std.proofs.lemmas.Bool.{eqb-true, ne_eqb}
use Rattle.mt_base.specs.declared.event.Msg.TheVariants.{NoteOn, NoteOff, KeyPressure, Control, Program, Pressure, Bend}
use Rattle.mt_base.specs.Midi.{MidiWhat, Says, SysexOf, MetaOf, MidiEvent}
use Rattle.midi_model.specs.Notes.{Note, sounds, is_at}
use Rattle.midi_model.specs.Music.{channel_at, key_pressure}
use Rattle.midi_model.specs.MusicLaws.{NotesFade}
use Rattle.midi_model.specs.Receiver.{after}
use Rattle.retune_model.specs.Options.{Options, is_drum_message}
use Rattle.retune_model.specs.Drums.{without_drums, others, DrumsStandApart}
use Rattle.retune_model.specs.Ports.{events_on}
use Rattle.retune_model.specs.Faults.{is_part}
use Rattle.receiver.specs.Sounding.{sounding_from, sounding_at}
use Rattle.lifetimes.specs.Told.{music_on}
use Rattle.lifetimes.specs.Stands.{heard_on}
use Rattle.lifetimes.proofs.NotesKept.{OfBegun, OfNote, all_notes}

-- the note that sounds on a key, without its number
abbrev pub note_on : List Note → ℕ → ℕ → Option Note
note_on ns c k = option_map (λ x. x.1) (sounding_at ns c k)

-- ---- channels beside the drums

abbrev from : ℕ → List Note → ℕ → ℕ → Option Note
from i ns c k = option_map (λ x. x.1) (sounding_from i ns c k)

renumbered : (i j : ℕ) (ns : List Note) (c k : ℕ) → from i ns c k ≡ from j ns c k
renumbered i j [] c k = refl
renumbered i j (n ∷ ns) c k = pick (is_at c k n && sounds n) (renumbered (suc i) (suc j) ns c k)
  where
    pick : (b : Bool) → from (suc i) ns c k ≡ from (suc j) ns c k
        → option_map (λ x. x.1) (cond b (Some (i, n)) (sounding_from (suc i) ns c k)) ≡ option_map (λ x. x.1) (cond b (Some (j, n)) (sounding_from (suc j) ns c k))
    pick true e = refl
    pick false e = e

-- notes of channel 10 don't sound on another
drum_elsewhere : (c k : ℕ) (n : Note) → c ≢ 9 → not (nat_eq n.channel 9) ≡ false → is_at c k n ≡ false
drum_elsewhere c k n ne e = ap (λ b. b && nat_eq n.key k) (ne_eqb n.channel c (λ same. ne (sym same ∙ eqb-true n.channel 9 (pick (nat_eq n.channel 9) e))))
  where
    pick : (b : Bool) → not b ≡ false → b ≡ true
    pick true e = refl
    pick false e = absurd cc

-- so they can be left out
left_out : (i j : ℕ) (ns : List Note) (c k : ℕ) → c ≢ 9 → from i ns c k ≡ from j (others ns) c k
left_out i j [] c k ne = refl
left_out i j (n ∷ ns) c k ne = pick (not (nat_eq n.channel 9)) refl (λ a b. left_out a b ns c k ne)
  where
    keep : (b : Bool) → from (suc i) ns c k ≡ from (suc j) (others ns) c k
        → option_map (λ x. x.1) (cond b (Some (i, n)) (sounding_from (suc i) ns c k)) ≡ option_map (λ x. x.1) (cond b (Some (j, n)) (sounding_from (suc j) (others ns) c k))
    keep true e = refl
    keep false e = e

    pick : (b : Bool) → not (nat_eq n.channel 9) ≡ b → ((a b : ℕ) → from a ns c k ≡ from b (others ns) c k)
        → from i (n ∷ ns) c k ≡ from j (cond b (n ∷ others ns) (others ns)) c k
    pick true e rest = keep (is_at c k n && sounds n) (rest (suc i) (suc j))
    pick false e rest = ap (λ b. option_map (λ x. x.1) (cond (b && sounds n) (Some (i, n)) (sounding_from (suc i) ns c k))) (drum_elsewhere c k n ne e) ∙ rest (suc i) j

same_others : (ns xs : List Note) (c k : ℕ) → c ≢ 9 → others ns ≡ others xs → note_on ns c k ≡ note_on xs c k
same_others ns xs c k ne e = left_out 1 1 ns c k ne ∙ (ap (λ ys. from 1 ys c k) e ∙ sym (left_out 1 1 xs c k ne))

-- ---- the drums

no_drum : (e : MidiEvent) → not (is_drum_message e.what) ≡ true → OfBegun (λ c k t. nat_eq c 9 ≡ false) e.tick e.what
no_drum e h = pick e.what h
  where
    flip : (b : Bool) → not b ≡ true → b ≡ false
    flip true e = absurd cc
    flip false e = refl

    pick : (what : MidiWhat) → not (is_drum_message what) ≡ true → OfBegun (λ c k t. nat_eq c 9 ≡ false) e.tick what
    pick (Says (NoteOn c k (suc v))) h = flip (nat_eq c 9) h
    pick (Says (NoteOn c k zero)) h = tt
    pick (Says (NoteOff c k v)) h = tt
    pick (Says (KeyPressure c k v)) h = tt
    pick (Says (Control c n v)) h = tt
    pick (Says (Program c p)) h = tt
    pick (Says (Pressure c v)) h = tt
    pick (Says (Bend c v)) h = tt
    pick (SysexOf lead bytes) h = tt
    pick (MetaOf kind bytes) h = tt

no_drums : (es : List MidiEvent) → AllByRecursion (λ e. OfBegun (λ c k t. nat_eq c 9 ≡ false) e.tick e.what) (without_drums es)
no_drums [] = tt
no_drums (e ∷ es) = pick (not (is_drum_message e.what)) refl (no_drums es)
  where
    pick : (b : Bool) → not (is_drum_message e.what) ≡ b
        → AllByRecursion (λ e. OfBegun (λ c k t. nat_eq c 9 ≡ false) e.tick e.what) (without_drums es)
        → AllByRecursion (λ e. OfBegun (λ c k t. nat_eq c 9 ≡ false) e.tick e.what) (cond b (e ∷ without_drums es) (without_drums es))
    pick true h rest = (no_drum e h, rest)
    pick false h rest = rest

silent : (i : ℕ) (ns : List Note) (k : ℕ) → AllByRecursion (OfNote (λ c k t. nat_eq c 9 ≡ false)) ns → sounding_from i ns 9 k ≡ None
silent i [] k h = refl
silent i (n ∷ ns) k h = ap (λ b. cond ((b && nat_eq n.key k) && sounds n) (Some (i, n)) (sounding_from (suc i) ns 9 k)) h.0 ∙ silent (suc i) ns k h.1

-- ---- what is heard of a port

part_or_drums : (o : Options) (c : ℕ) → is_part o c ≡ true → o.keep_drums ≡ true → c ≢ 9
part_or_drums o c is keep same = absurd (let e : is_part o c ≡ false = ap (λ b. not (b && nat_eq c 9)) keep ∙ ap (λ d. not (nat_eq d 9)) same in cc)

-- the notes that sound on a retuned channel
pub heard_notes : DrumsStandApart → (o : Options) (z : ℕ) (es : List MidiEvent) (c k : ℕ) → is_part o c ≡ true
    → note_on (after (heard_on o z es)).music.notes c k ≡ note_on (music_on z es).notes c k
heard_notes apart o z es c k is = pick o.keep_drums (part_or_drums o c is)
  where
    pick : (b : Bool) → (b ≡ true → c ≢ 9)
        → note_on (after (cond b (without_drums (events_on z es)) (events_on z es))).music.notes c k ≡ note_on (music_on z es).notes c k
    pick true ne = sym (same_others (music_on z es).notes (after (without_drums (events_on z es))).music.notes c k (ne refl) (apart (events_on z es)).notes)
    pick false ne = refl

-- and on a kept drum channel none does
pub unheard : NotesFade → (o : Options) (z : ℕ) (es : List MidiEvent) (c k : ℕ) → is_part o c ≡ false
    → sounding_at (after (heard_on o z es)).music.notes c k ≡ None
unheard fade o z es c k is = pick o.keep_drums (nat_eq c 9) refl is
  where
    none : c ≡ 9 → sounding_at (after (without_drums (events_on z es))).music.notes c k ≡ None
    none e = ap (λ d. sounding_at (after (without_drums (events_on z es))).music.notes d k) e
        ∙ silent 1 (after (without_drums (events_on z es))).music.notes k (all_notes (λ c k t. nat_eq c 9 ≡ false) fade (without_drums (events_on z es)) (no_drums (events_on z es)))

    pick : (b d : Bool) → nat_eq c 9 ≡ d → not (b && d) ≡ false
        → sounding_at (after (cond b (without_drums (events_on z es)) (events_on z es))).music.notes c k ≡ None
    pick true true e h = none (eqb-true c 9 e)
    pick true false e h = absurd cc
    pick false d e h = absurd cc

-- the state of a retuned channel
pub heard_channel : DrumsStandApart → (o : Options) (z : ℕ) (es : List MidiEvent) (c : ℕ) → is_part o c ≡ true
    → channel_at (after (heard_on o z es)).music c ≡ channel_at (music_on z es) c
heard_channel apart o z es c is = pick o.keep_drums (part_or_drums o c is)
  where
    pick : (b : Bool) → (b ≡ true → c ≢ 9)
        → channel_at (after (cond b (without_drums (events_on z es)) (events_on z es))).music c ≡ channel_at (music_on z es) c
    pick true ne = sym ((apart (events_on z es)).channels c (ne refl))
    pick false ne = refl

-- ---- the pressures of its keys

abbrev pressure_of : Option Note → ℕ
pressure_of None = 0
pressure_of (Some n) = n.pressure

pressure_there : (i : ℕ) (ns : List Note) (c k : ℕ) → key_pressure ns c k ≡ pressure_of (from i ns c k)
pressure_there i [] c k = refl
pressure_there i (n ∷ ns) c k = pick (is_at c k n && sounds n) (pressure_there (suc i) ns c k)
  where
    pick : (b : Bool) → key_pressure ns c k ≡ pressure_of (from (suc i) ns c k)
        → cond b n.pressure (key_pressure ns c k) ≡ pressure_of (option_map (λ x. x.1) (cond b (Some (i, n)) (sounding_from (suc i) ns c k)))
    pick true e = refl
    pick false e = e

pub heard_pressure : DrumsStandApart → (o : Options) (z : ℕ) (es : List MidiEvent) (c k : ℕ) → is_part o c ≡ true
    → key_pressure (after (heard_on o z es)).music.notes c k ≡ key_pressure (music_on z es).notes c k
heard_pressure apart o z es c k is =
    pressure_there 1 (after (heard_on o z es)).music.notes c k ∙ (ap pressure_of (heard_notes apart o z es c k is) ∙ sym (pressure_there 1 (music_on z es).notes c k))
