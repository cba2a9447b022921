-- The notes of all ports, by the notes of each and the order of the events that begin them.
use Rattle.std.proofs.Common.{◌≡◌, ℕ, List, [], ◌∷◌, ◌++◌, Bool, true, false, cond, refl, ap, sym, ◌∙◌, subst}
use Rattle.std.specs.Prelude.{map, filter, nat_eq, drop}
use Rattle.std.proofs.lemmas.Bool.{eq-eqb, eqb-true}
use Rattle.mt_base.specs.Midi.{MidiEvent}
use Rattle.midi_model.specs.Notes.{Note}
use Rattle.retune_model.specs.Options.{Options}
use Rattle.retune_model.specs.Ports.{port_of, ports_after}
use Rattle.retune_model.specs.PlaysTheSame.{begins_note}
use Rattle.retune_model.specs.Faults.{is_part}
use Rattle.audit_report.specs.declared.played.Played.{Played}
use Rattle.audit_report.specs.Audit.{is_on, ports_begun}
use Rattle.audit_report.specs.Played.{dealt, first_on, played_on}

eq_swap : (a b : ℕ) → nat_eq a b ≡ nat_eq b a
eq_swap a b = pick (nat_eq a b) (nat_eq b a) refl refl
  where
    pick : (x y : Bool) → nat_eq a b ≡ x → nat_eq b a ≡ y → x ≡ y
    pick true true e f = refl
    pick false false e f = refl
    pick true false e f = sym (eq-eqb b a (sym (eqb-true a b e))) ∙ f
    pick false true e f = sym e ∙ eq-eqb a b (sym (eqb-true b a f))

abbrev AreLeft : List Played → (ℕ → List Note) → Type 0
AreLeft ps left = (z : ℕ) → filter (is_on z) ps ≡ map (played_on z) (left z)

abbrev behind : ℕ → (ℕ → List Note) → ℕ → List Note
behind z left y = cond (nat_eq y z) (drop 1 (left y)) (left y)

-- the first note is the first of its port
first_is : (z : ℕ) (p : Played) (ps : List Played) (ns : List Note) → p ∷ filter (is_on z) ps ≡ map (played_on z) ns
    → (first_on z ns ≡ p ∷ []) × (filter (is_on z) ps ≡ map (played_on z) (drop 1 ns))
first_is z p ps [] h = absurd cc
first_is z p ps (n ∷ ns) h = (let same : p ≡ played_on z n = cc in ap (λ x. x ∷ []) (sym same), cc)

on_it : (p : Played) (ps : List Played) → filter (is_on p.part.port) (p ∷ ps) ≡ p ∷ filter (is_on p.part.port) ps
on_it p ps = ap (λ b. cond b (p ∷ filter (is_on p.part.port) ps) (filter (is_on p.part.port) ps)) (eq-eqb p.part.port p.part.port refl)

are_behind : (p : Played) (ps : List Played) (left : ℕ → List Note) → AreLeft (p ∷ ps) left → AreLeft ps (behind p.part.port left)
are_behind p ps left h y = pick (nat_eq y p.part.port) refl
  where
    pick : (b : Bool) → nat_eq y p.part.port ≡ b → filter (is_on y) ps ≡ map (played_on y) (cond b (drop 1 (left y)) (left y))
    pick true e = (first_is y p ps (left y) (sym (ap (λ b. cond b (p ∷ filter (is_on y) ps) (filter (is_on y) ps)) (eq_swap p.part.port y ∙ e))
        ∙ h y)).1
    pick false e = sym (ap (λ b. cond b (p ∷ filter (is_on y) ps) (filter (is_on y) ps)) (eq_swap p.part.port y ∙ e)) ∙ h y

abbrev port_in : Played → ℕ
port_in p = p.part.port

-- with one event more before the others
dealt_more : (o : Options) (e : MidiEvent) (es : List MidiEvent)
    → ((ports : ℕ → ℕ) (ps : List Played) (left : ℕ → List Note) → AreLeft ps left → map port_in ps ≡ ports_begun o ports es
    → dealt o ports left es ≡ ps)
    → (ports : ℕ → ℕ) (ps : List Played) (left : ℕ → List Note) → AreLeft ps left → map port_in ps ≡ ports_begun o ports (e ∷ es)
    → dealt o ports left (e ∷ es) ≡ ps
dealt_more o e es rest ports ps left h order = pick (begins_note (is_part o) e.what) ps h order
  where
    taken : (p : Played) (qs : List Played) → AreLeft (p ∷ qs) left → p.part.port ≡ port_of ports e
        → map port_in qs ≡ ports_begun o (ports_after ports e) es
        → first_on (port_of ports e) (left (port_of ports e)) ++ dealt o (ports_after ports e) (behind (port_of ports e) left) es ≡ p ∷ qs
    taken p qs g same order =
        ap (λ x. x ++ dealt o (ports_after ports e) (behind (port_of ports e) left) es)
        (subst (λ y. first_on y (left y) ≡ p ∷ []) same (first_is p.part.port p qs (left p.part.port) (sym (on_it p qs) ∙ g p.part.port)).0)
        ∙ ap (λ xs. p ∷ xs) (rest (ports_after ports e) qs (behind (port_of ports e) left) (subst (λ y. AreLeft qs (behind y left)) same
        (are_behind p qs left g)) order)

    pick : (b : Bool) (qs : List Played) → AreLeft qs left
        → map port_in qs ≡ cond b (port_of ports e ∷ ports_begun o (ports_after ports e) es) (ports_begun o (ports_after ports e) es)
        → cond b (first_on (port_of ports e) (left (port_of ports e)) ++ dealt o (ports_after ports e) (behind (port_of ports e) left) es) (dealt o
        (ports_after ports e) left es) ≡ qs
    pick true [] g order = absurd cc
    pick true (p ∷ qs) g order = taken p qs g (let same : p.part.port ≡ port_of ports e = cc in same) (let more : map port_in qs ≡ ports_begun o
        (ports_after ports e) es = cc in more)
    pick false qs g order = rest (ports_after ports e) qs left g order

pub dealt_are : (o : Options) (es : List MidiEvent) (ports : ℕ → ℕ) (ps : List Played) (left : ℕ → List Note) → AreLeft ps left
    → map port_in ps ≡ ports_begun o ports es → dealt o ports left es ≡ ps
dealt_are o [] ports [] left h order = refl
dealt_are o [] ports (p ∷ ps) left h order = absurd cc
dealt_are o (e ∷ es) ports ps left h order = dealt_more o e es (λ a b c d f. dealt_are o es a b c d f) ports ps left h order
