-- The events of a port, position by position.
use Rattle.std.proofs.Common.{◌≡◌, ◌≤◌, ◌<◌, ◌+◌, ◌++◌, ℕ, zero, suc, List, [], ◌∷◌, Bool, true, false, cond, ◌&&◌, ◌||◌, length, take, drop, filter, refl, sym, ap, ◌∙◌, arith, nat_eq, ◌⊎◌, inl, inr}
use Rattle.std.proofs.lemmas.List.{take-append-drop}
use Rattle.std.proofs.lemmas.Bool.{cases_lt, eqb-true, false_from_ne_true}
use Rattle.mt_base.specs.Midi.{MidiEvent}
use Rattle.midi_model.specs.Sysex.{doing}
use Rattle.retune_model.specs.Options.{Options}
use Rattle.retune_model.specs.Ports.{Numbered, port_of, all_zero, ports_from, ports_after, of_port, of_port_from, with_event, event_at, unnumbered, events_on, is_reset_at, port_at, resets}
use Rattle.retune_model.specs.Faults.{Targets}
use Rattle.retune_model.specs.Pairs.{Pair}
use Rattle.retune_model.specs.Rests.{begun_at, begun_pairs}
use Rattle.retune_model.specs.FrontLaws.{EventOfNext, EventsWithNext}
use Rattle.plan_laws.specs.Counting.{ComesAt, NextIsTaken}
use Rattle.plan_laws.specs.EventLaws.{ResetIsOfEvent, EventsGoOn, FollowsEvent, BegunFollowsEvent}

abbrev any_reset : List MidiEvent → Bool
any_reset [] = false
any_reset (e ∷ es) = resets (doing e.what) || any_reset es

reset_any : (ns : List Numbered) (k : ℕ) → is_reset_at ns k ≡ any_reset (event_at ns k)
reset_any [] k = refl
reset_any (n ∷ ns) k = pick (nat_eq n.position k) (reset_any ns k)
  where
    pick : (b : Bool) → is_reset_at ns k ≡ any_reset (event_at ns k)
        → ((b && resets (doing n.event.what)) || is_reset_at ns k)
        ≡ any_reset (unnumbered (cond b (n ∷ filter (λ m. nat_eq m.position k) ns) (filter (λ m. nat_eq m.position k) ns)))
    pick true same = ap (λ b. resets (doing n.event.what) || b) same
    pick false same = same

pub reset_of_event : NextIsTaken → EventOfNext → ResetIsOfEvent
reset_of_event taken next es z k e comes =
    let long : length (take k es) ≡ k = (taken es k e comes).1 in
    let whole : take k es ++ e ∷ drop (suc k) es ≡ es = ap (λ xs. take k es ++ xs) (sym comes) ∙ take-append-drop k es in
    let here = nat_eq (port_of (ports_from all_zero (take k es)) e) z in
    reset_any (of_port z es) (suc k)
    ∙ ap any_reset (ap (λ xs. event_at (of_port z xs) (suc k)) (sym whole)
    ∙ ap (λ n. event_at (of_port z (take k es ++ e ∷ drop (suc k) es)) (suc n)) (sym long)
    ∙ next (take k es) e (drop (suc k) es) z)
    ∙ pick here
  where
    pick : (b : Bool) → any_reset (cond b (e ∷ []) []) ≡ (b && resets (doing e.what))
    pick true = or_none (resets (doing e.what))
      where
        or_none : (c : Bool) → (c || false) ≡ c
        or_none true = refl
        or_none false = refl
    pick false = refl

pub events_go_on : NextIsTaken → EventsWithNext → EventsGoOn
events_go_on taken next es z k e comes = ap (events_on z) (taken es k e comes).0 ∙ next (take k es) e z

-- ---- where there is an event

none_at : (z : ℕ) (ports : ℕ → ℕ) (i : ℕ) (es : List MidiEvent) (k : ℕ) → ((j : ℕ) → j < length es → k ≡ suc (i + j) → ⊥)
    → event_at (of_port_from z ports i es) k ≡ []
none_at z ports i [] k never = refl
none_at z ports i (e ∷ es) k never = pick (nat_eq (port_of ports e) z) (none_at z (ports_after ports e) (suc i) es k (λ j l s. never (suc j) (omega
    (arith, l)) (omega (arith, s))))
  where
    apart : nat_eq (suc i) k ≡ false
    apart = false_from_ne_true (nat_eq (suc i) k) (λ h. let s = eqb-true (suc i) k h in never 0 (omega arith) (omega (arith, s)))

    pick : (b : Bool) → event_at (of_port_from z (ports_after ports e) (suc i) es) k ≡ []
        → event_at (with_event b (record { position = suc i; event = e }) (of_port_from z (ports_after ports e) (suc i) es)) k ≡ []
    pick true later = ap (λ b. unnumbered (cond b (record { position = suc i; event = e } ∷ filter (λ n. nat_eq n.position k) (of_port_from z
        (ports_after ports e) (suc i) es))
        (filter (λ n. nat_eq n.position k) (of_port_from z (ports_after ports e) (suc i) es)))) apart ∙ later
    pick false later = later

comes_there : (es : List MidiEvent) (j : ℕ) → j < length es → (e : MidiEvent) × ComesAt es j e
comes_there [] j l = absurd (omega (arith, l))
comes_there (x ∷ es) zero l = (x, refl)
comes_there (x ∷ es) (suc j) l = comes_there es j (omega (arith, l))

nothing : (o : Options) (part : ℕ → Bool) (table : Targets) (es : List MidiEvent) (z k : ℕ) (p : Pair)
    → begun_at o part table (port_at es z) k ≡ p ∷ []
    → event_at (of_port z es) k ≡ [] → ⊥
nothing o part table es z k p begun none =
    let e : [] ≡ p ∷ [] = sym (ap (begun_pairs z o part table) none) ∙ begun in cc

pub begun_follows : BegunFollowsEvent
begun_follows o part table es z zero p begun = absurd (nothing o part table es z 0 p begun (none_at z all_zero 0 es 0 (λ j l s. omega (arith, s))))
begun_follows o part table es z (suc k) p begun = pick (cases_lt k (length es))
  where
    pick : (k < length es) ⊎ (length es ≤ k) → FollowsEvent es (suc k)
    pick (inl l) = let c = comes_there es k l in record { before = k; event = c.0; is = refl; comes = c.1; within = l }
    pick (inr l) = absurd (nothing o part table es z (suc k) p begun (none_at z all_zero 0 es (suc k) (λ j m s. omega (arith, l, m, s))))
