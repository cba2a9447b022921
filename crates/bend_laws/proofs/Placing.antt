-- The events of a port of a file: where they stand, and what holds of them.
use Rattle.std.proofs.Common.{◌≡◌, ◌<◌, ◌≤◌, ◌+◌, ◌&&◌, ℕ, suc, Bool, true, false, cond, List, [], ◌∷◌, Some, refl, ap, sym, ◌∙◌, subst, filter, length, nat_eq, arith, inl, inr}
use Rattle.std.specs.List.{AllByRecursion}
use Rattle.std.proofs.lemmas.Bool.{cases_eq, eq-eqb, ne_eqb, or_left, or_right, and_from}
use Rattle.mt_base.specs.Midi.{MidiEvent}
use Rattle.midi_model.specs.Sysex.{doing}
use Rattle.midi_model.specs.Order.{AreInOrder}
use Rattle.retune_model.specs.Ports.{Numbered, Ascend, port_of, ports_after, all_zero, with_event, of_port_from, of_port, unnumbered, event_at, is_reset_at, resets}
use Rattle.bend_laws.specs.Positions.{port_event}
use Rattle.bend_laws.proofs.Outputs.{events_if}

-- ---- the event at a position

none_on : (k : ℕ) (ns : List Numbered) → Ascend k ns → (j : ℕ) → j ≤ k → filter (λ (n : Numbered). nat_eq n.position j) ns ≡ []
none_on k [] r j l = refl
none_on k (n ∷ ns) r j l =
    let later : k < n.position = r.0 in
    let rest : List Numbered = filter (λ (x : Numbered). nat_eq x.position j) ns in
    ap (λ b. cond b (n ∷ rest) rest) (ne_eqb n.position j (λ e. omega (arith, e, later, l))) ∙ none_on n.position ns r.1 j (omega (arith, later, l))

-- as a list
pub event_is : (m : ℕ) (ns : List Numbered) → Ascend m ns → (k : ℕ) → event_at ns k ≡ events_if (port_event ns k)
event_is m [] r k = refl
event_is m (n ∷ ns) r k =
    let rest : List Numbered = filter (λ (x : Numbered). nat_eq x.position k) ns in
    elim (cases_eq n.position k) [
      | inl e ↦ ap (λ b. unnumbered (cond b (n ∷ rest) rest)) (eq-eqb n.position k e) ∙ ap (λ xs. n.event ∷ unnumbered xs)
          (none_on n.position ns r.1 k (omega (arith, e)))
          ∙ sym (ap (λ b. events_if (cond b (Some n.event) (port_event ns k))) (eq-eqb n.position k e))
      | inr e ↦ ap (λ b. unnumbered (cond b (n ∷ rest) rest)) (ne_eqb n.position k e) ∙ event_is n.position ns r.1 k
          ∙ sym (ap (λ b. events_if (cond b (Some n.event) (port_event ns k))) (ne_eqb n.position k e))
    ]

-- where it stands
pub record StandsAt (P : Numbered → Type 0) (k : ℕ) (e : MidiEvent) : Type 0 where
  pub one : Numbered
  pub holds : P one
  pub position : one.position ≡ k
  pub event : one.event ≡ e

pub at_place : (P : Numbered → Type 0) (ns : List Numbered) → AllByRecursion P ns → (k : ℕ) (e : MidiEvent) → port_event ns k ≡ Some e →
    StandsAt P k e
at_place P [] h k e is = absurd cc
at_place P (n ∷ ns) h k e is = elim (cases_eq n.position k) [
  | inl p ↦ (let g : Some n.event ≡ Some e = ap (λ b. cond b (Some n.event) (port_event ns k)) (sym (eq-eqb n.position k p)) ∙ is in
      record { one = n; holds = h.0; position = p; event = (let same : n.event ≡ e = cc in same) })
  | inr p ↦ at_place P ns h.1 k e (ap (λ b. cond b (Some n.event) (port_event ns k)) (sym (ne_eqb n.position k p)) ∙ is)
]

pub reset_here : (ns : List Numbered) (k : ℕ) (e : MidiEvent) → port_event ns k ≡ Some e → resets (doing e.what) ≡ true → is_reset_at ns k ≡ true
reset_here [] k e is r = absurd cc
reset_here (n ∷ ns) k e is r = elim (cases_eq n.position k) [
  | inl p ↦ (let g : Some n.event ≡ Some e = ap (λ b. cond b (Some n.event) (port_event ns k)) (sym (eq-eqb n.position k p)) ∙ is in
      let same : n.event ≡ e = cc in
      or_left (nat_eq n.position k && resets (doing n.event.what)) (is_reset_at ns k)
      (and_from (nat_eq n.position k) (resets (doing n.event.what)) (eq-eqb n.position k p) (ap (λ (x : MidiEvent). resets (doing x.what)) same ∙ r)))
  | inr p ↦ or_right (nat_eq n.position k && resets (doing n.event.what)) (is_reset_at ns k)
      (reset_here ns k e (ap (λ b. cond b (Some n.event) (port_event ns k)) (sym (ne_eqb n.position k p)) ∙ is) r)
]

-- ---- the events of a port

pub either_way : (b : Bool) (n : Numbered) (ns : List Numbered) (P : List Numbered → Type 0) → P (n ∷ ns) → P ns → P (with_event b n ns)
either_way true n ns P h g = h
either_way false n ns P h g = g

abbrev pub at_next : ℕ → MidiEvent → Numbered
at_next k e = record { position = suc k; event = e }

-- what holds of each event of the file
pub all_of_port : (P : MidiEvent → Type 0) (z : ℕ) (ports : ℕ → ℕ) (k : ℕ) (es : List MidiEvent) → AllByRecursion P es →
    AllByRecursion P (unnumbered (of_port_from z ports k es))
all_of_port P z ports k [] h = tt
all_of_port P z ports k (e ∷ es) h =
    let rest : AllByRecursion P (unnumbered (of_port_from z (ports_after ports e) (suc k) es)) = all_of_port P z (ports_after ports e)
    (suc k) es h.1 in
    either_way (nat_eq (port_of ports e) z) (at_next k e) (of_port_from z (ports_after ports e) (suc k) es)
    (λ xs. AllByRecursion P (unnumbered xs)) (h.0, rest) rest

-- what holds of each event of each port holds of all events of the file
pub all_of_ports : (P : MidiEvent → Type 0) (ports : ℕ → ℕ) (k : ℕ) (es : List MidiEvent) →
    ((z : ℕ) → AllByRecursion P (unnumbered (of_port_from z ports k es))) → AllByRecursion P es
all_of_ports P ports k [] h = tt
all_of_ports P ports k (e ∷ es) h =
    let here : ℕ = port_of ports e in (
      (subst (λ b. AllByRecursion P (unnumbered (with_event b (at_next k e) (of_port_from here (ports_after ports e) (suc k) es))))
          (eq-eqb here here refl) (h here)).0,
      all_of_ports P (ports_after ports e) (suc k) es (λ z. later (nat_eq here z) (of_port_from z (ports_after ports e) (suc k) es) (h z)),
    )
  where
    later : (b : Bool) (ns : List Numbered) → AllByRecursion P (unnumbered (with_event b (at_next k e) ns)) → AllByRecursion P (unnumbered ns)
    later true ns g = g.1
    later false ns g = g

positions_within : (m z : ℕ) (ports : ℕ → ℕ) (k : ℕ) (es : List MidiEvent) → k + length es ≤ m → AllByRecursion (λ (n : Numbered). n.position ≤ m)
    (of_port_from z ports k es)
positions_within m z ports k [] l = tt
positions_within m z ports k (e ∷ es) l =
    let g : k + suc (length es) ≤ m = l in
    let rest : AllByRecursion (λ (n : Numbered). n.position ≤ m) (of_port_from z (ports_after ports e) (suc k) es) =
    positions_within m z (ports_after ports e) (suc k) es (omega (arith, g)) in
    either_way (nat_eq (port_of ports e) z) (at_next k e) (of_port_from z (ports_after ports e) (suc k) es)
    (AllByRecursion (λ (n : Numbered). n.position ≤ m)) (omega (arith, g), rest) rest

pub port_within : (z : ℕ) (es : List MidiEvent) → AllByRecursion (λ (n : Numbered). n.position ≤ length es) (of_port z es)
port_within z es = positions_within (length es) z all_zero 0 es (omega arith)

order_lower : (t u : ℕ) (es : List MidiEvent) → t ≤ u → AreInOrder u es → AreInOrder t es
order_lower t u [] l h = tt
order_lower t u (e ∷ es) l h = ((let g : u ≤ e.tick = h.0 in omega (arith, l, g)), h.1)

pub port_order : (t z : ℕ) (ports : ℕ → ℕ) (k : ℕ) (es : List MidiEvent) → AreInOrder t es → AreInOrder t (unnumbered (of_port_from z ports k es))
port_order t z ports k [] h = tt
port_order t z ports k (e ∷ es) h =
    let later : List Numbered = of_port_from z (ports_after ports e) (suc k) es in
    let rest : AreInOrder e.tick (unnumbered later) = port_order e.tick z (ports_after ports e) (suc k) es h.1 in
    either_way (nat_eq (port_of ports e) z) (at_next k e) later (λ xs. AreInOrder t (unnumbered xs)) (h.0, rest)
    (order_lower t e.tick (unnumbered later) h.0 rest)
