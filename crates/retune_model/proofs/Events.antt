-- Numbered events, position by position.
use Rattle.std.proofs.Common.{◌≡◌, ◌≤◌, ℕ, suc, List, [], ◌∷◌, ◌++◌, Bool, true, false, ◌||◌, refl, ap, sym, ◌∙◌, subst, arith, inl, inr, nat_eq, nat_le}
use Rattle.std.specs.List.{AllByRecursion}
use Rattle.std.proofs.lemmas.Bool.{cases_lt, cases_eq, cases_Bool, le-leb, lt-leb, eq-eqb, ne_eqb, eqb-true}
use Rattle.mt_base.specs.Midi.{MidiEvent}
use Rattle.midi_model.specs.Sysex.{doing}
use Rattle.midi_model.specs.Music.{quiet, play}
use Rattle.retune_model.proofs.Steady.{play-append}
use Rattle.retune_model.specs.Ports.{Numbered, events_to, music_at, resets, is_reset_at, event_at, Ascend}

pub came : (k : ℕ) (n : Numbered) (ns : List Numbered) → nat_le n.position k ≡ true → events_to k (n ∷ ns) ≡ n.event ∷ events_to k ns
came k n ns h = rw h refl

not_yet : (k : ℕ) (n : Numbered) (ns : List Numbered) → nat_le n.position k ≡ false → events_to k (n ∷ ns) ≡ events_to k ns
not_yet k n ns h = rw h refl

pub now : (k : ℕ) (n : Numbered) (ns : List Numbered) → nat_eq n.position k ≡ true → event_at (n ∷ ns) k ≡ n.event ∷ event_at ns k
now k n ns h = rw h refl

pub not_now : (k : ℕ) (n : Numbered) (ns : List Numbered) → nat_eq n.position k ≡ false → event_at (n ∷ ns) k ≡ event_at ns k
not_now k n ns h = rw h refl

pub none_yet : (a k : ℕ) (ns : List Numbered) → Ascend a ns → k ≤ a → events_to k ns ≡ []
none_yet a k [] h l = refl
none_yet a k (n ∷ ns) h l = not_yet k n ns (lt-leb n.position k (omega (arith, h.0, l))) ∙ none_yet n.position k ns h.1 (omega (arith, h.0, l))

pub none_at : (a k : ℕ) (ns : List Numbered) → Ascend a ns → k ≤ a → event_at ns k ≡ []
none_at a k [] h l = refl
none_at a k (n ∷ ns) h l = not_now k n ns (ne_eqb n.position k (λ e. omega (arith, h.0, l, e))) ∙ none_at n.position k ns h.1 (omega (arith, h.0, l))

-- one more position has one more event, or none
pub one_more : (a k : ℕ) (ns : List Numbered) → Ascend a ns → events_to (suc k) ns ≡ events_to k ns ++ event_at ns (suc k)
one_more a k [] h = refl
one_more a k (n ∷ ns) h = elim (cases_lt k n.position) [
  | inr l ↦
      came (suc k) n ns (le-leb n.position (suc k) (omega (arith, l)))
      ∙ ap (λ es. n.event ∷ es) (one_more n.position k ns h.1)
      ∙ ap (λ es. es ++ event_at ns (suc k)) (sym (came k n ns (le-leb n.position k l)))
      ∙ ap (λ es. events_to k (n ∷ ns) ++ es) (sym (not_now (suc k) n ns (ne_eqb n.position (suc k) (λ e. omega (arith, l, e)))))
  | inl l ↦ elim (cases_eq n.position (suc k)) [
    | inl e ↦
        came (suc k) n ns (le-leb n.position (suc k) (omega (arith, e)))
        ∙ ap (λ es. n.event ∷ es) (none_yet n.position (suc k) ns h.1 (omega (arith, e)) ∙ sym (none_at n.position (suc k) ns h.1 (omega (arith, e))))
        ∙ sym (now (suc k) n ns (eq-eqb n.position (suc k) e))
        ∙ ap (λ es. es ++ event_at (n ∷ ns) (suc k)) (sym (none_yet n.position k ns h.1 (omega (arith, l))) ∙ sym (not_yet k n ns (lt-leb n.position k l)))
    | inr e ↦
        not_yet (suc k) n ns (lt-leb n.position (suc k) (omega (arith, l, e)))
        ∙ none_yet n.position (suc k) ns h.1 (omega (arith, l, e))
        ∙ sym (none_at n.position (suc k) ns h.1 (omega (arith, l, e)))
        ∙ sym (not_now (suc k) n ns (ne_eqb n.position (suc k) e))
        ∙ ap (λ es. es ++ event_at (n ∷ ns) (suc k)) (sym (none_yet n.position k ns h.1 (omega (arith, l))) ∙ sym (not_yet k n ns (lt-leb n.position k l)))
  ]
]

-- at most one event
abbrev pub Short : List MidiEvent → Type 0
Short [] = Unit {0}
Short (e ∷ []) = Unit {0}
Short (e ∷ f ∷ es) = ⊥

pub short_at : (a k : ℕ) (ns : List Numbered) → Ascend a ns → Short (event_at ns k)
short_at a k [] h = tt
short_at a k (n ∷ ns) h = elim (cases_eq n.position k) [
  | inl e ↦ subst Short (sym (now k n ns (eq-eqb n.position k e) ∙ ap (λ es. n.event ∷ es) (none_at n.position k ns h.1 (omega (arith, e))))) tt
  | inr e ↦ subst Short (sym (not_now k n ns (ne_eqb n.position k e))) (short_at n.position k ns h.1)
]

pub all_at : (P : Numbered → Type 0) (Q : MidiEvent → Type 0) (k : ℕ) → ((n : Numbered) → n.position ≡ k → P n → Q n.event) → (ns : List Numbered) → AllByRecursion P ns → AllByRecursion Q (event_at ns k)
all_at P Q k f [] h = tt
all_at P Q k f (n ∷ ns) h = elim (cases_Bool (nat_eq n.position k)) [
  | inl e ↦ subst (λ (es : List MidiEvent). AllByRecursion Q es) (sym (now k n ns e)) (f n (eqb-true n.position k e) h.0, all_at P Q k f ns h.1)
  | inr e ↦ subst (λ (es : List MidiEvent). AllByRecursion Q es) (sym (not_now k n ns e)) (all_at P Q k f ns h.1)
]

abbrev pub any_resets : List MidiEvent → Bool
any_resets [] = false
any_resets (e ∷ es) = resets (doing e.what) || any_resets es

pub reset_at : (k : ℕ) (ns : List Numbered) → is_reset_at ns k ≡ any_resets (event_at ns k)
reset_at k [] = refl
reset_at k (n ∷ ns) = elim (cases_Bool (nat_eq n.position k)) [
  | inl e ↦ rw e (ap (λ b. resets (doing n.event.what) || b) (reset_at k ns))
  | inr e ↦ rw e (reset_at k ns)
]

pub music_next : (a k : ℕ) (ns : List Numbered) → Ascend a ns → music_at ns (suc k) ≡ play (music_at ns k) (event_at ns (suc k))
music_next a k ns h = ap (play quiet) (one_more a k ns h) ∙ play-append quiet (events_to k ns) (event_at ns (suc k))
