-- The pairs of a part behind an event that leaves its notes: what sounded before it, and what still rests at its tick.
use Rattle.std.proofs.Common.{◌≡◌, ◌∙◌, ℕ, zero, suc, ℤ, List, [], ◌∷◌, ◌++◌, Bool, true, false, cond, not, ◌&&◌, ◌||◌, nat_eq, refl, sym, ap, length, drop, inl, inr}
use Rattle.std.specs.List.{filter}
use Rattle.std.proofs.lemmas.Bool.{eqb-true, and_parts}
use Rattle.std.proofs.lemmas.Bool.Decides.{eqb_tells}
use Rattle.mt_base.specs.Midi.{MidiEvent}
use Rattle.midi_model.specs.Notes.{Note, sounds}
use Rattle.midi_model.specs.Music.{Music, step}
use Rattle.midi_model.specs.Order.{AreInOrder}
use Rattle.midi_model.specs.Receiver.{after}
use Rattle.retune_model.specs.Options.{Options}
use Rattle.retune_model.specs.Ports.{events_on, of_port, music_at}
use Rattle.retune_model.specs.PortLaws.{MusicAtAPosition, PortsAreTimed}
use Rattle.retune_model.specs.Faults.{Targets, is_part, int_eq, any_note}
use Rattle.retune_model.specs.Pairs.{Pair, is_same_pair}
use Rattle.retune_model.specs.Rests.{past_at, pair_of}
use Rattle.retune_model.specs.LastEnds.{has_ended}
use Rattle.retune_model.specs.RestLaws.{EndsAreKept, ResetsForgetEnds}
use Rattle.lifetimes.specs.Told.{music_on, port_on, is_of_pair, pair_sounds, steps_in}
use Rattle.lifetimes.specs.Stands.{end_of_pair, pair_on}
use Rattle.lifetimes.specs.Due.{AreLeft, LeavesPart}
use Rattle.lifetimes.proofs.Appended.{events_next, after_next, music_there, longer}
use Rattle.lifetimes.proofs.EndsKept.{told_table, ends_pair_by, end_next, pair_end_next}
use Rattle.lifetimes.proofs.StruckNow.{music_before}

-- ---- notes that are left

left_filter : (c : ℕ) (part : ℕ → Bool) (ns xs : List Note) → AreLeft c ns xs
    → AreLeft c (filter (λ n. part n.channel) ns) (filter (λ n. part n.channel) xs)
left_filter c part [] [] h = tt
left_filter c part [] (x ∷ xs) h = absurd h
left_filter c part (n ∷ ns) [] h = absurd h
left_filter c part (n ∷ ns) (x ∷ xs) h = pick (part n.channel) (part x.channel) (ap part h.0.0) (left_filter c part ns xs h.1)
  where
    pick : (a b : Bool) → b ≡ a → AreLeft c (filter (λ n. part n.channel) ns) (filter (λ n. part n.channel) xs)
        → AreLeft c (cond a (n ∷ filter (λ n. part n.channel) ns) (filter (λ n. part n.channel) ns))
        (cond b (x ∷ filter (λ n. part n.channel) xs) (filter (λ n. part n.channel) xs))
    pick true true e r = (h.0, r)
    pick false false e r = r
    pick true false e r = absurd cc
    pick false true e r = absurd cc

left_drop : (c i : ℕ) (ns xs : List Note) → AreLeft c ns xs → AreLeft c (drop i ns) (drop i xs)
left_drop c zero ns xs h = h
left_drop c (suc i) [] [] h = tt
left_drop c (suc i) [] (x ∷ xs) h = absurd h
left_drop c (suc i) (n ∷ ns) [] h = absurd h
left_drop c (suc i) (n ∷ ns) (x ∷ xs) h = left_drop c i ns xs h.1

-- none of its pairs ends
never : (b : Bool) → (b && not b) ≡ false
never true = refl
never false = refl

and_false : (b : Bool) → (b && false) ≡ false
and_false true = refl
and_false false = refl

none_ends : (z : ℕ) (o : Options) (table : Targets) (p : Pair) (ns xs : List Note) → AreLeft p.part.channel ns xs
    → has_ended z o table p ns xs ≡ false
none_ends z o table p [] xs h = refl
none_ends z o table p (n ∷ ns) [] h = refl
none_ends z o table p (n ∷ ns) (x ∷ xs) h = pick (is_same_pair (pair_of z o table n) p) refl (none_ends z o table p ns xs h.1)
  where
    pick : (b : Bool) → is_same_pair (pair_of z o table n) p ≡ b → has_ended z o table p ns xs ≡ false
        → ((b && (sounds n && not (sounds x))) || has_ended z o table p ns xs) ≡ false
    pick false e r = r
    pick true e r =
        let channel : n.channel ≡ p.part.channel = eqb-true n.channel p.part.channel (and_parts _ _ (and_parts _ _ e).0).1 in
        ap (λ (y : Note). (sounds n && not (sounds y)) || has_ended z o table p ns xs) (h.0.1 channel)
        ∙ (ap (λ b. b || has_ended z o table p ns xs) (never (sounds n)) ∙ r)

-- and what is asked of the channel alone is as before
any_left : (c : ℕ) (f : Note → Bool) (ns xs : List Note) → ((n : Note) → nat_eq n.channel c ≡ false → f n ≡ false) → AreLeft c ns xs
    → any_note f xs ≡ any_note f ns
any_left c f [] [] only h = refl
any_left c f [] (x ∷ xs) only h = absurd h
any_left c f (n ∷ ns) [] only h = absurd h
any_left c f (n ∷ ns) (x ∷ xs) only h = elim (eqb_tells n.channel c) [
  | inl t ↦ ap (λ (y : Note). f y || any_note f xs) (h.0.1 t.1) ∙ ap (λ b. f n || b) (any_left c f ns xs only h.1)
  | inr t ↦ ap (λ b. b || any_note f xs) (only x (ap (λ d. nat_eq d c) h.0.0 ∙ t.0))
      ∙ (any_left c f ns xs only h.1 ∙ ap (λ b. b || any_note f ns) (sym (only n t.0)))
]

-- ---- the event

pub music_next : (z : ℕ) (es : List MidiEvent) (e : MidiEvent) → port_on es e ≡ z → music_on z (es ++ e ∷ []) ≡ step (music_on z es) e
music_next z es e here = ap (λ l. (after l).music) (events_next z es e here) ∙ ap (λ r. r.music) (after_next (events_on z es) e)

pub sounds_left : (o : Options) (table : Targets) (es : List MidiEvent) (e : MidiEvent) (z c : ℕ) (q : ℤ) → port_on es e ≡ z → LeavesPart z es e c
    → pair_sounds o table (es ++ e ∷ []) (pair_on z c q) ≡ pair_sounds o table es (pair_on z c q)
sounds_left o table es e z c q here left =
    ap (λ m. any_note (λ n. (is_part o n.channel && sounds n) && is_of_pair o table (pair_on z c q) n) m.notes) (music_next z es e here)
    ∙ any_left c (λ n. (is_part o n.channel && sounds n) && is_of_pair o table (pair_on z c q) n) (music_on z es).notes (step (music_on z es) e).notes
    (λ n other. ap (λ b. (is_part o n.channel && sounds n) && (b && int_eq (steps_in o table n) q)) other
    ∙ and_false (is_part o n.channel && sounds n)) left.notes

pub music_after : MusicAtAPosition → (z : ℕ) (es : List MidiEvent) (e : MidiEvent) → port_on es e ≡ z
    → music_at (of_port z (es ++ e ∷ [])) (suc (length es)) ≡ step (music_on z es) e
music_after law z es e here = ap (music_at (of_port z (es ++ e ∷ []))) (sym (longer es e))
    ∙ (music_there law z (es ++ e ∷ []) ∙ music_next z es e here)

none_ended : MusicAtAPosition → (o : Options) (table : Targets) (es : List MidiEvent) (e : MidiEvent) (z c : ℕ) (q : ℤ) → port_on es e ≡ z
    → LeavesPart z es e c
    → ends_pair_by o table es e (pair_on z c q) ≡ false
none_ended law o table es e z c q here left =
    let past : ℕ = past_at (is_part o) (of_port z (es ++ e ∷ [])) (length es) in
    let chosen : Music → List Note = λ m. filter (λ n. is_part o n.channel) m.notes in
    ap (λ m. has_ended z o (told_table o table) (pair_on z c q) (drop past (chosen m))
    (drop past (chosen (music_at (of_port z (es ++ e ∷ [])) (suc (length es)))))) (music_before law z es e)
    ∙ (ap (λ m. has_ended z o (told_table o table) (pair_on z c q) (drop past (chosen (music_on z es))) (drop past (chosen m)))
    (music_after law z es e here)
    ∙ none_ends z o (told_table o table) (pair_on z c q) (drop past (chosen (music_on z es))) (drop past (chosen (step (music_on z es) e)))
    (left_drop c past (chosen (music_on z es)) (chosen (step (music_on z es) e))
    (left_filter c (is_part o) (music_on z es).notes (step (music_on z es) e).notes left.notes)))

pub end_left : MusicAtAPosition → PortsAreTimed → EndsAreKept → ResetsForgetEnds
    → (o : Options) (table : Targets) (es : List MidiEvent) (e : MidiEvent) (z c : ℕ) (q : ℤ)
    → AreInOrder 0 (es ++ e ∷ []) → port_on es e ≡ z → LeavesPart z es e c
    → end_of_pair o table (es ++ e ∷ []) (pair_on z c q) ≡ end_of_pair o table es (pair_on z c q)
end_left law timed kept forget o table es e z c q order here left =
    pair_end_next timed kept forget o table es e (pair_on z c q) order
    ∙ (ap (λ b. end_next b (ends_pair_by o table es e (pair_on z c q)) e.tick (end_of_pair o table es (pair_on z c q)))
    (ap (λ b. nat_eq (port_on es e) z && b) left.no_reset ∙ and_false (nat_eq (port_on es e) z))
    ∙ ap (λ b. end_next false b e.tick (end_of_pair o table es (pair_on z c q))) (none_ended law o table es e z c q here left))
