-- The events of a port have their positions in the whole file, and its ticks.
use Rattle.std.proofs.Common.{◌≡◌, ◌≤◌, ◌+◌, ℕ, zero, suc, List, [], ◌∷◌, ◌++◌, Bool, true, false, cond, refl, ap, sym, ◌∙◌, map, length, take, arith, nat_eq, nat_le}
use Rattle.std.specs.Prelude.{unwrap_or}
use Rattle.std.specs.List.{AllByRecursion, filter}
use Rattle.std.proofs.lemmas.Bool.{eq-eqb, eqb-true, ne_eqb, cond-true, le-leb}
use Rattle.mt_base.specs.Midi.{MidiEvent}
use Rattle.midi_model.specs.Merged.{of_track}
use Rattle.midi_model.specs.Order.{AreInOrder}
use Rattle.retune_model.specs.Ports.{NamesNoOther, unnumbered, port_at, Numbered, events_to, named_port, port_of, ports_after, all_zero, ports_from, with_event, of_port_from, last_named, event_at, tick_from, tick_to, Ascend, AreTimed}
use Rattle.retune_model.proofs.Events.{none_yet, none_at}

further : (a b : ℕ) (ns : List Numbered) → a ≤ b → Ascend b ns → Ascend a ns
further a b [] l h = tt
further a b (n ∷ ns) l h = (omega (arith, l, h.0), h.1)

-- positions ascend
pub ascend_from : (z : ℕ) (ports : ℕ → ℕ) (a : ℕ) (es : List MidiEvent) → Ascend a (of_port_from z ports a es)
ascend_from z ports a [] = tt
ascend_from z ports a (e ∷ es) = pick (nat_eq (port_of ports e) z) (ascend_from z (ports_after ports e) (suc a) es)
  where
    pick : (b : Bool) → Ascend (suc a) (of_port_from z (ports_after ports e) (suc a) es) → Ascend a (with_event b (record { position = suc a; event = e }) (of_port_from z (ports_after ports e) (suc a) es))
    pick true h = (omega arith, h)
    pick false h = further a (suc a) (of_port_from z (ports_after ports e) (suc a) es) (omega arith) h

-- each event has the tick of its position
tick_first : (t : ℕ) (es : List MidiEvent) → tick_from t es 0 ≡ t
tick_first t [] = refl
tick_first t (e ∷ es) = refl

ticks_from : (z : ℕ) (ports : ℕ → ℕ) (a t : ℕ) (es : List MidiEvent) (f : ℕ → ℕ) → ((j k : ℕ) → k ≡ a + j → f k ≡ tick_from t es j) → AllByRecursion (λ n. n.event.tick ≡ f n.position) (of_port_from z ports a es)
ticks_from z ports a t [] f h = tt
ticks_from z ports a t (e ∷ es) f h = pick (nat_eq (port_of ports e) z) (ticks_from z (ports_after ports e) (suc a) e.tick es f (λ j k s. h (suc j) k (omega (arith, s))))
  where
    pick : (b : Bool) → AllByRecursion (λ n. n.event.tick ≡ f n.position) (of_port_from z (ports_after ports e) (suc a) es)
        → AllByRecursion (λ n. n.event.tick ≡ f n.position) (with_event b (record { position = suc a; event = e }) (of_port_from z (ports_after ports e) (suc a) es))
    pick true r = (sym (h 1 (suc a) (omega arith) ∙ tick_first e.tick es), r)
    pick false r = r

-- ticks never fall
tick_order : (t : ℕ) (es : List MidiEvent) → AreInOrder t es → (k : ℕ) → tick_from t es k ≤ tick_from t es (suc k)
tick_order t [] o k = omega arith
tick_order t (e ∷ es) o zero = let h : t ≤ e.tick = o.0 in let f : tick_from e.tick es 0 ≡ e.tick = tick_first e.tick es in omega (arith, h, f)
tick_order t (e ∷ es) o (suc k) = tick_order e.tick es o.1 k

pub timed : (z : ℕ) (es : List MidiEvent) → AreInOrder 0 es → AreTimed (port_at es z)
timed z es o = record {
  ascend = ascend_from z all_zero 0 es;
  ticks = ticks_from z all_zero 0 0 es (tick_to es) (λ j k s. ap (tick_from 0 es) (let e : k ≡ j = omega (arith, s) in e));
  order = tick_order 0 es o;
}

-- ---- what is so of each event of the file, is so of each of a port
pub all_of_port : (P : MidiEvent → Type 0) (z : ℕ) (ports : ℕ → ℕ) (a : ℕ) (es : List MidiEvent) → AllByRecursion P es → AllByRecursion (λ n. P n.event) (of_port_from z ports a es)
all_of_port P z ports a [] h = tt
all_of_port P z ports a (e ∷ es) h = pick (nat_eq (port_of ports e) z) (all_of_port P z (ports_after ports e) (suc a) es h.1)
  where
    pick : (b : Bool) → AllByRecursion (λ n. P n.event) (of_port_from z (ports_after ports e) (suc a) es) → AllByRecursion (λ n. P n.event) (with_event b (record { position = suc a; event = e }) (of_port_from z (ports_after ports e) (suc a) es))
    pick true r = (h.0, r)
    pick false r = r

-- ---- a file in which no event names a port but the first
pub one_port : (ports : ℕ → ℕ) (a : ℕ) (es : List MidiEvent) → ((t : ℕ) → ports t ≡ 0) → AllByRecursion NamesNoOther es → unnumbered (of_port_from 0 ports a es) ≡ es
one_port ports a [] zero_all h = refl
one_port ports a (e ∷ es) zero_all h =
    let here : port_of ports e ≡ 0 = ap (unwrap_or (named_port e.what)) (zero_all e.track) ∙ h.0 in
    let after : (t : ℕ) → ports_after ports e t ≡ 0 = λ t. both (nat_eq t e.track) t here in
    ap (λ b. unnumbered (with_event b (record { position = suc a; event = e }) (of_port_from 0 (ports_after ports e) (suc a) es))) (eq-eqb (port_of ports e) 0 here)
    ∙ ap (λ xs. e ∷ xs) (one_port (ports_after ports e) (suc a) es after h.1)
  where
    both : (b : Bool) (t : ℕ) → port_of ports e ≡ 0 → cond b (port_of ports e) (ports t) ≡ 0
    both true t x = x
    both false t x = zero_all t

-- ---- the port of a track is the one that it named last
pub last_of_track : (ports : ℕ → ℕ) (t : ℕ) (es : List MidiEvent) → ports_from ports es t ≡ last_named (ports t) (of_track t es)
last_of_track ports t [] = refl
last_of_track ports t (e ∷ es) = last_of_track (ports_after ports e) t es ∙ pick (nat_eq t e.track) (nat_eq e.track t) refl refl
  where
    pick : (a b : Bool) → nat_eq t e.track ≡ a → nat_eq e.track t ≡ b → last_named (cond a (port_of ports e) (ports t)) (of_track t es) ≡ last_named (ports t) (cond b (e ∷ of_track t es) (of_track t es))
    pick true true x y = ap (λ s. last_named (unwrap_or (named_port e.what) (ports s)) (of_track t es)) (eqb-true e.track t y)
    pick false false x y = refl
    pick true false x y = absurd (let f : nat_eq e.track t ≡ true = eq-eqb e.track t (sym (eqb-true t e.track x)) in cc)
    pick false true x y = absurd (let f : nat_eq t e.track ≡ true = eq-eqb t e.track (sym (eqb-true e.track t y)) in cc)

-- the event behind a front is of the port that its track named last, the event included
pub port_behind : (ports : ℕ → ℕ) (es : List MidiEvent) (e : MidiEvent) → port_of (ports_from ports es) e ≡ ports_from ports (es ++ e ∷ []) e.track
port_behind ports [] e = sym (cond-true (nat_eq e.track e.track) (port_of ports e) (ports e.track) (eq-eqb e.track e.track refl))
port_behind ports (x ∷ es) e = port_behind (ports_after ports x) es e

pub event_behind : (z : ℕ) (ports : ℕ → ℕ) (a k : ℕ) (es : List MidiEvent) (e : MidiEvent) (fs : List MidiEvent) → k ≡ a + suc (length es)
    → event_at (of_port_from z ports a (es ++ e ∷ fs)) k ≡ cond (nat_eq (port_of (ports_from ports es) e) z) (e ∷ []) []
event_behind z ports a k [] e fs s = pick (nat_eq (port_of ports e) z)
  where
    rest : List Numbered
    rest = of_port_from z (ports_after ports e) (suc a) fs

    none : event_at (of_port_from z (ports_after ports e) (suc a) fs) k ≡ []
    none = none_at (suc a) k (of_port_from z (ports_after ports e) (suc a) fs) (ascend_from z (ports_after ports e) (suc a) fs) (omega (arith, s))

    pick : (b : Bool) → event_at (with_event b (record { position = suc a; event = e }) (of_port_from z (ports_after ports e) (suc a) fs)) k ≡ cond b (e ∷ []) []
    pick true = ap (λ b. map (λ (n : Numbered). n.event) (cond b (record { position = suc a; event = e } ∷ filter (λ (n : Numbered). nat_eq n.position k) (of_port_from z (ports_after ports e) (suc a) fs)) (filter (λ (n : Numbered). nat_eq n.position k) (of_port_from z (ports_after ports e) (suc a) fs)))) (eq-eqb (suc a) k (omega (arith, s)))
        ∙ ap (λ xs. e ∷ xs) none
    pick false = none
event_behind z ports a k (x ∷ es) e fs s = pick (nat_eq (port_of ports x) z) (event_behind z (ports_after ports x) (suc a) k es e fs (omega (arith, s)))
  where
    pick : (b : Bool) → event_at (of_port_from z (ports_after ports x) (suc a) (es ++ e ∷ fs)) k ≡ cond (nat_eq (port_of (ports_from (ports_after ports x) es) e) z) (e ∷ []) []
        → event_at (with_event b (record { position = suc a; event = x }) (of_port_from z (ports_after ports x) (suc a) (es ++ e ∷ fs))) k ≡ cond (nat_eq (port_of (ports_from (ports_after ports x) es) e) z) (e ∷ []) []
    pick false r = r
    pick true r = ap (λ b. map (λ (n : Numbered). n.event) (cond b (record { position = suc a; event = x } ∷ filter (λ (n : Numbered). nat_eq n.position k) (of_port_from z (ports_after ports x) (suc a) (es ++ e ∷ fs))) (filter (λ (n : Numbered). nat_eq n.position k) (of_port_from z (ports_after ports x) (suc a) (es ++ e ∷ fs))))) (ne_eqb (suc a) k (λ c. omega (arith, s, c)))
        ∙ r

-- ---- the events of a port among the first k
none_first : (z : ℕ) (ports : ℕ → ℕ) (a : ℕ) (es : List MidiEvent) → [] ≡ map (λ (n : Numbered). n.event) (of_port_from z ports a (take 0 es))
none_first z ports a [] = refl
none_first z ports a (e ∷ es) = refl

pub among_first : (z : ℕ) (ports : ℕ → ℕ) (a m k : ℕ) (es : List MidiEvent) → k ≡ a + m → events_to k (of_port_from z ports a es) ≡ map (λ (n : Numbered). n.event) (of_port_from z ports a (take m es))
among_first z ports a zero k es s = none_yet a k (of_port_from z ports a es) (ascend_from z ports a es) (omega (arith, s)) ∙ none_first z ports a es
among_first z ports a (suc m) k [] s = refl
among_first z ports a (suc m) k (e ∷ es) s = pick (nat_eq (port_of ports e) z) (among_first z (ports_after ports e) (suc a) m k es (omega (arith, s)))
  where
    pick : (b : Bool) → events_to k (of_port_from z (ports_after ports e) (suc a) es) ≡ map (λ (n : Numbered). n.event) (of_port_from z (ports_after ports e) (suc a) (take m es))
        → events_to k (with_event b (record { position = suc a; event = e }) (of_port_from z (ports_after ports e) (suc a) es)) ≡ map (λ (n : Numbered). n.event) (with_event b (record { position = suc a; event = e }) (of_port_from z (ports_after ports e) (suc a) (take m es)))
    pick false r = r
    pick true r = ap (λ b. map (λ (n : Numbered). n.event) (cond b (record { position = suc a; event = e } ∷ filter (λ (n : Numbered). nat_le n.position k) (of_port_from z (ports_after ports e) (suc a) es)) (filter (λ (n : Numbered). nat_le n.position k) (of_port_from z (ports_after ports e) (suc a) es)))) (le-leb (suc a) k (omega (arith, s)))
        ∙ ap (λ xs. e ∷ xs) r
