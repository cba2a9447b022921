-- No retuned note ends by a message of kept drums, nor by an event of a port on which no channel message came.
use Rattle.std.proofs.Common.{◌≡◌, ◌<◌, ◌∙◌, ℕ, List, [], ◌∷◌, ◌++◌, Bool, true, false, not, ◌&&◌, ◌||◌, nat_eq, refl, sym, ap, replicate, slice_index}
use Rattle.std.proofs.lemmas.Bool.{and_parts}
use Rattle.std.proofs.lemmas.List.{get_or-replicate}
use Rattle.std.proofs.lemmas.Nat.Bits.{bit_at-zero}
use Rattle.mt_base.specs.Midi.{MidiEvent}
use Rattle.midi_model.specs.Notes.{Note, sounds, is_at}
use Rattle.midi_model.specs.Music.{Music}
use Rattle.retune_model.specs.Options.{Options, is_drum_message}
use Rattle.retune_model.specs.Drums.{others}
use Rattle.retune_model.specs.Ports.{all_zero, events_on}
use Rattle.retune_model.specs.Faults.{is_part}
use Rattle.retune_model.specs.SourceFaults.{has_port, ports_used}
use Rattle.receiver.specs.Notes.{has}
use Rattle.receiver.specs.Sounding.{ended_on}
use Rattle.lifetimes.specs.Told.{TellsEnds, music_on, port_on}
use Rattle.lifetimes.proofs.Laws.{Laws}
use Rattle.lifetimes.proofs.EventNext.{notes_of, grown}
use Rattle.lifetimes.proofs.Telling.{ended_apart, beside_drums, now_on}
use Rattle.lifetimes.proofs.Waiting.{others_same}
use Rattle.lifetimes.proofs.Unheard.{unheard_port}

and_none : (b : Bool) → (b && false) ≡ false
and_none true = refl
and_none false = refl

none_between : (c k : ℕ) (ns : List Note) → ended_on c k ns ns ≡ false
none_between c k [] = refl
none_between c k (n ∷ ns) = pick (is_at c k n) (sounds n) ∙ none_between c k ns
  where
    pick : (a s : Bool) → ((a && (s && not s)) || ended_on c k ns ns) ≡ ended_on c k ns ns
    pick false s = refl
    pick true true = refl
    pick true false = refl

pub none_by_drums : Laws → (o : Options) (z : ℕ) (es : List MidiEvent) (e : MidiEvent) → port_on es e ≡ z
    → (o.keep_drums && is_drum_message e.what) ≡ true
    → (c k : ℕ) → (is_part o c && ended_on c k (music_on z es).notes (music_on z (es ++ e ∷ [])).notes) ≡ false
none_by_drums laws o z es e here kept c k = pick (is_part o c) refl
  where
    drum : (o.keep_drums ≡ true) × (is_drum_message e.what ≡ true)
    drum = and_parts o.keep_drums (is_drum_message e.what) kept

    pick : (b : Bool) → is_part o c ≡ b → (b && ended_on c k (music_on z es).notes (music_on z (es ++ e ∷ [])).notes) ≡ false
    pick false is = refl
    pick true is =
        ap (λ ns. ended_on c k (music_on z es).notes ns) (sym (now_on z es e here))
        ∙ ended_apart e.tick c k _ (notes_of (events_on z es)) (notes_of (events_on z es ++ e ∷ [])) (beside_drums o c is drum.0)
        (grown laws.age (events_on z es) e)
        ∙ ap (λ ns. ended_on c k (others (music_on z es).notes) ns) (ap others (now_on z es e here) ∙ others_same laws.apart z es e here drum.1)
        ∙ none_between c k (others (music_on z es).notes)

pub none_unheard : (o : Options) (z : ℕ) (es : List MidiEvent) (xs : List Note) → has_port z (ports_used all_zero [] es) ≡ false
    → (c k : ℕ) → (is_part o c && ended_on c k (music_on z es).notes xs) ≡ false
none_unheard o z es xs unheard c k = ap (λ (m : Music). is_part o c && ended_on c k m.notes xs) (unheard_port z es unheard) ∙ and_none (is_part o c)

-- so no bit is set
no_bit : (c k : ℕ) → c < 16 → has (slice_index (replicate 16 0) c) k ≡ false
no_bit c k low = ap (λ m. has m k) (get_or-replicate 16 c 0 0 low) ∙ ap (λ b. nat_eq b 1) (bit_at-zero k)

pub none_told : (o : Options) (es : List MidiEvent) (e : MidiEvent)
    → ((c k : ℕ) → (is_part o c && ended_on c k (music_on (port_on es e) es).notes (music_on (port_on es e) (es ++ e ∷ [])).notes) ≡ false)
    → TellsEnds o es e (record { keys = replicate 16 0 })
none_told o es e none c k low below = no_bit c k low ∙ sym (none c k)
