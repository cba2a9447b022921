-- What is kept in mind for a port is what its events so far have made of it; so a translation by what is kept is one by histories.
use Rattle.std.proofs.Common.{◌≡◌, ℕ, suc, List, [], ◌∷◌, ◌++◌, Bool, true, false, cond, refl, ap, sym, ◌∙◌, nat_eq}
use Rattle.std.proofs.lemmas.Bool.{eqb-true}
use Rattle.mt_base.specs.Midi.{MidiEvent}
use Rattle.retune_model.specs.Ports.{Numbered, port_of, ports_after, all_zero, of_port, events_on}
use Rattle.retune_model.specs.PortOutput.{through, kept_for, through_ports_from, through_ports, IsBeside}
use Rattle.retune_model.specs.OutputLaws.{PortsAreByTheirRules}

abbrev after_all : {S : Type 0} → (S → Numbered → S) → S → List Numbered → S
after_all next s [] = s
after_all next s (n ∷ ns) = after_all next (next s n) ns

after_one_more : {S : Type 0} (next : S → Numbered → S) (s : S) (ns : List Numbered) (n : Numbered) → after_all next s (ns ++ n ∷ []) ≡ next (after_all next s ns) n
after_one_more next s [] n = refl
after_one_more next s (x ∷ ns) n = after_one_more next (next s x) ns n

abbrev with_it : List Numbered → Numbered → List Numbered
with_it before n = before ++ n ∷ []

-- of one port
one_through : {S : Type 0} (block : S → Numbered → List MidiEvent) (next : S → Numbered → S) (first : S) (before : List Numbered) (s : S) (ns : List Numbered) → after_all next first before ≡ s
    → through (λ h n. block (after_all next first h) n) with_it before ns ≡ through block next s ns
one_through block next first before s [] same = refl
one_through block next first before s (n ∷ ns) same =
    ap (λ x. block x n ++ through (λ h m. block (after_all next first h) m) with_it (before ++ n ∷ []) ns) same
    ∙ ap (λ l. block s n ++ l) (one_through block next first (before ++ n ∷ []) (next s n) ns (after_one_more next first before n ∙ ap (λ x. next x n) same))

-- of all
all_through : {S : Type 0} (block : ℕ → S → Numbered → List MidiEvent) (next : ℕ → S → Numbered → S) (first : S) (ports : ℕ → ℕ) (k : ℕ) (h : ℕ → List Numbered) (s : ℕ → S) (es : List MidiEvent)
    → ((z : ℕ) → after_all (next z) first (h z) ≡ s z)
    → through_ports_from (λ z x n. block z (after_all (next z) first x) n) (λ z x n. with_it x n) ports k h es ≡ through_ports_from block next ports k s es
all_through block next first ports k h s [] same = refl
all_through {S} block next first ports k h s (e ∷ es) same =
    let z : ℕ = port_of ports e in
    let n : Numbered = record { position = suc k; event = e } in
    ap (λ x. block z x n ++ through_ports_from (λ y g m. block y (after_all (next y) first g) m) (λ y g m. with_it g m) (ports_after ports e) (suc k) (kept_for z (h z ++ n ∷ []) h) es) (same z)
    ∙ ap (λ l. block z (s z) n ++ l) (all_through block next first (ports_after ports e) (suc k) (kept_for z (h z ++ n ∷ []) h) (kept_for z (next z (s z) n) s) es (λ y. pick y z (nat_eq y z) refl n))
  where
    pick : (y z : ℕ) (b : Bool) → nat_eq y z ≡ b → (n : Numbered) → after_all (next y) first (cond b (h z ++ n ∷ []) (h y)) ≡ cond b (next z (s z) n) (s y)
    pick y z false e n = same y
    pick y z true e n = after_one_more (next y) first (h z) n ∙ ap (λ x. next y (after_all (next x) first (h z)) n) (eqb-true y z e) ∙ ap (λ x. next y x n) (same z) ∙ ap (λ x. next x (s z) n) (eqb-true y z e)

-- each port of a translation of blocks that stand beside their events is the port's own translation
pub port_through : PortsAreByTheirRules → {S : Type 0} (block : ℕ → S → Numbered → List MidiEvent) (next : ℕ → S → Numbered → S) (first : S) → ((z : ℕ) (s : S) (n : Numbered) → IsBeside n.event (block z s n))
    → (es : List MidiEvent) (z : ℕ) → events_on z (through_ports block next first es) ≡ through (block z) (next z) first (of_port z es)
port_through law block next first beside es z =
    let rule : ℕ → List Numbered → Numbered → List MidiEvent = λ y h n. block y (after_all (next y) first h) n in
    ap (events_on z) (sym (all_through block next first all_zero 0 (λ y. []) (λ y. first) es (λ y. refl)))
    ∙ law rule (λ y h n. beside y (after_all (next y) first h) n) es z
    ∙ one_through (block z) (next z) first [] first (of_port z es) refl
