-- Which retuned notes end by an event that a port takes.
use Rattle.std.proofs.Common.{◌≡◌, ◌≢◌, ◌<◌, ◌∙◌, ℕ, List, [], ◌∷◌, ◌++◌, Bool, true, false, cond, not, ◌&&◌, ◌||◌, nat_eq, is_some, refl, sym, ap, slice_index}
use Rattle.std.proofs.lemmas.Bool.{eqb-true, ne_eqb}
use Rattle.mt_base.specs.Midi.{MidiEvent}
use Rattle.midi_model.specs.Notes.{Note, sounds, is_at}
use Rattle.midi_model.specs.MusicLaws.{Grows}
use Rattle.retune_model.specs.Options.{Options, is_drum_message}
use Rattle.retune_model.specs.Drums.{without_drums, others}
use Rattle.retune_model.specs.Ports.{events_on}
use Rattle.retune_model.specs.Faults.{is_part}
use Rattle.receiver.specs.Notes.{has}
use Rattle.receiver.specs.Sounding.{sounding_at, ended_on}
use Rattle.receiver.specs.Stands.{TellsEnded}
use Rattle.receiver.specs.declared.ends.Ends.{Ends}
use Rattle.lifetimes.specs.Told.{music_on, port_on}
use Rattle.lifetimes.specs.Stands.{heard_on}
use Rattle.lifetimes.proofs.Laws.{Laws}
use Rattle.lifetimes.proofs.Appended.{events_next, drumless_next}
use Rattle.lifetimes.proofs.EventNext.{notes_of, grown, ended_sounded}
use Rattle.lifetimes.proofs.HeardParts.{unheard}

-- what ends beside the drums doesn't depend on them
pub ended_apart : (t c k : ℕ) (b ns xs : List Note) → c ≢ 9 → Grows t b ns xs → ended_on c k ns xs ≡ ended_on c k (others ns) (others xs)
ended_apart t c k b [] xs ne g = refl
ended_apart t c k b (n ∷ ns) [] ne g = absurd g
ended_apart t c k b (n ∷ ns) (x ∷ xs) ne g =
    pick (nat_eq n.channel 9) (nat_eq x.channel 9) refl (ap (λ d. nat_eq d 9) g.0.channel) (ended_apart t c k b ns xs ne g.1)
  where
    gone : Bool
    gone = sounds n && not (sounds x)

    pick : (p q : Bool) → nat_eq n.channel 9 ≡ p → q ≡ p → ended_on c k ns xs ≡ ended_on c k (others ns) (others xs)
        → ((is_at c k n && gone) || ended_on c k ns xs) ≡
        ended_on c k (cond (not p) (n ∷ others ns) (others ns)) (cond (not q) (x ∷ others xs) (others xs))
    pick false false e f r = ap (λ d. (is_at c k n && gone) || d) r
    pick true true e f r =
        ap (λ d. ((d && nat_eq n.key k) && gone) || ended_on c k ns xs) (ne_eqb n.channel c (λ s. ne (sym s ∙ eqb-true n.channel 9 e)))
        ∙ r
    pick true false e f r = absurd cc
    pick false true e f r = absurd cc

pub beside_drums : (o : Options) (c : ℕ) → is_part o c ≡ true → o.keep_drums ≡ true → c ≢ 9
beside_drums o c is keep same = absurd (let e : is_part o c ≡ false = ap (λ b. not (b && nat_eq c 9)) keep ∙ ap (λ d. not (nat_eq d 9)) same in cc)

not_true : (b : Bool) → (b ≡ true → ⊥) → b ≡ false
not_true true h = absurd (h refl)
not_true false h = refl

-- of what the receiver hears there end just the notes of the port's music that are retuned
heard_ended : Laws → (o : Options) (z : ℕ) (es : List MidiEvent) (e : MidiEvent) (c k : ℕ) → (o.keep_drums && is_drum_message e.what) ≡ false
    → ended_on c k (notes_of (heard_on o z es)) (notes_of (heard_on o z es ++ e ∷ []))
    ≡ (is_part o c && ended_on c k (notes_of (events_on z es)) (notes_of (events_on z es ++ e ∷ [])))
heard_ended laws o z es e c k told = pick (is_part o c) refl
  where
    hs : List MidiEvent
    hs = events_on z es

    without : is_part o c ≡ false → ended_on c k (notes_of (heard_on o z es)) (notes_of (heard_on o z es ++ e ∷ [])) ≡ false
    without is = not_true (ended_on c k (notes_of (heard_on o z es)) (notes_of (heard_on o z es ++ e ∷ []))) (λ h.
        (let s : is_some (sounding_at (notes_of (heard_on o z es)) c k) ≡ true =
        ended_sounded c k (notes_of (heard_on o z es)) (notes_of (heard_on o z es ++ e ∷ [])) h in
        let n : is_some (sounding_at (notes_of (heard_on o z es)) c k) ≡ false = ap is_some (unheard laws.fade o z es c k is) in
        cc))

    drumless : is_drum_message e.what ≡ false → without_drums (hs ++ e ∷ []) ≡ without_drums hs ++ e ∷ []
    drumless no_drum = drumless_next hs e ∙ ap (λ d. without_drums hs ++ cond (not d) (e ∷ []) []) no_drum

    all : is_drum_message e.what ≡ false → c ≢ 9 → ended_on c k (notes_of (without_drums hs)) (notes_of (without_drums hs ++ e ∷ []))
        ≡ ended_on c k (notes_of hs) (notes_of (hs ++ e ∷ []))
    all no_drum ne =
        ended_apart e.tick c k _ (notes_of (without_drums hs)) (notes_of (without_drums hs ++ e ∷ [])) ne (grown laws.age (without_drums hs) e)
        ∙ ap (λ ns. ended_on c k ns (others (notes_of (without_drums hs ++ e ∷ [])))) (sym (laws.apart hs).notes)
        ∙ ap (λ ns. ended_on c k (others (notes_of hs)) ns) (ap (λ l. others (notes_of l)) (sym (drumless no_drum))
        ∙ sym (laws.apart (hs ++ e ∷ [])).notes)
        ∙ sym (ended_apart e.tick c k _ (notes_of hs) (notes_of (hs ++ e ∷ [])) ne (grown laws.age hs e))

    kept : (b : Bool) → (b && is_drum_message e.what) ≡ false → (b ≡ true → c ≢ 9)
        → ended_on c k (notes_of (cond b (without_drums hs) hs)) (notes_of (cond b (without_drums hs) hs ++ e ∷ []))
        ≡ ended_on c k (notes_of hs) (notes_of (hs ++ e ∷ []))
    kept false d ne = refl
    kept true d ne = all d (ne refl)

    pick : (p : Bool) → is_part o c ≡ p → ended_on c k (notes_of (heard_on o z es)) (notes_of (heard_on o z es ++ e ∷ []))
        ≡ (p && ended_on c k (notes_of hs) (notes_of (hs ++ e ∷ [])))
    pick true is = kept o.keep_drums told (beside_drums o c is)
    pick false is = without is

-- the bits of what ended
pub bits_tell : Laws → (o : Options) (z : ℕ) (es : List MidiEvent) (e : MidiEvent) (ends : Ends) → (o.keep_drums && is_drum_message e.what) ≡ false
    → TellsEnded ends (notes_of (heard_on o z es)) (notes_of (heard_on o z es ++ e ∷ [])) → (c k : ℕ) → c < 16 → k < 128
    → has (slice_index ends.keys c) k ≡ (is_part o c && ended_on c k (notes_of (events_on z es)) (notes_of (events_on z es ++ e ∷ [])))
bits_tell laws o z es e ends told tells c k low below = tells c k low below ∙ heard_ended laws o z es e c k told

pub now_on : (z : ℕ) (es : List MidiEvent) (e : MidiEvent) → port_on es e ≡ z
    → notes_of (events_on z es ++ e ∷ []) ≡ (music_on z (es ++ e ∷ [])).notes
now_on z es e here = ap notes_of (sym (events_next z es e here))
