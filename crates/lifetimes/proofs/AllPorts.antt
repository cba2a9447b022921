-- All ports in use, with one event more: the event's port takes it, and all others wait.
use Rattle.std.proofs.Common.{◌≡◌, ◌≤◌, ◌∙◌, ℕ, zero, suc, ◌+◌, List, [], ◌∷◌, ◌++◌, Bool, true, false, cond, ◌&&◌, ◌||◌, nat_eq, refl, sym, ap, arith, map, drop, set, reverse, inl, inr}
use Rattle.std.specs.List.{AllByRecursion}
use Rattle.std.proofs.lemmas.Grind.{reverse_onto}
use Rattle.std.proofs.lemmas.Bool.{eq-eqb}
use Rattle.std.proofs.lemmas.Bool.Decides.{eqb_tells}
use Rattle.mt_base.specs.Midi.{MidiEvent}
use Rattle.midi_model.specs.Order.{AreInOrder}
use Rattle.retune_model.specs.Options.{Options, is_drum_message}
use Rattle.retune_model.specs.Ports.{port_of, ports_after, all_zero}
use Rattle.retune_model.specs.Faults.{Targets}
use Rattle.retune_model.specs.SourceFaults.{is_message, has_port, with_port, ports_used}
use Rattle.lifetimes.specs.Told.{port_on}
use Rattle.lifetimes.specs.Stands.{PortStands}
use Rattle.lifetimes.specs.declared.port.Port.{Port}
use Rattle.lifetimes.proofs.Laws.{Laws}
use Rattle.lifetimes.proofs.Waiting.{port_waits, drums_wait}

two : (b : Bool) → b ≡ true → b ≡ false → ⊥
two b x y = cc

-- ---- each port is listed once

-- how often a port is listed
abbrev pub times : ℕ → List ℕ → ℕ
times z [] = 0
times z (n ∷ ns) = cond (nat_eq n z) 1 0 + times z ns

none_listed : (z : ℕ) (ns : List ℕ) → has_port z ns ≡ false → times z ns ≡ 0
none_listed z [] h = refl
none_listed z (n ∷ ns) h = pick (nat_eq n z) h (none_listed z ns)
  where
    pick : (b : Bool) → (b || has_port z ns) ≡ false → (has_port z ns ≡ false → times z ns ≡ 0) → cond b 1 0 + times z ns ≡ 0
    pick true e r = absurd cc
    pick false e r = (let none = r e in omega (arith, none))

not_listed : (z : ℕ) (ns : List ℕ) → times z ns ≡ 0 → has_port z ns ≡ false
not_listed z [] h = refl
not_listed z (n ∷ ns) h = pick (nat_eq n z) h (not_listed z ns)
  where
    pick : (b : Bool) → cond b 1 0 + times z ns ≡ 0 → (times z ns ≡ 0 → has_port z ns ≡ false) → (b || has_port z ns) ≡ false
    pick true e r = absurd (omega (arith, e))
    pick false e r = r (omega (arith, e))

once_with : (b : Bool) (p : ℕ) (used : List ℕ) → ((z : ℕ) → times z used ≤ 1) → (z : ℕ) → times z (with_port b p used) ≤ 1
once_with false p used once z = once z
once_with true p used once z = pick (has_port p used) refl
  where
    new : has_port p used ≡ false → (d : Bool) → (d ≡ true → p ≡ z) → cond d 1 0 + times z used ≤ 1
    new none false f = (let l = once z in omega (arith, l))
    new none true f = (let n : times z used ≡ 0 = ap (λ x. times x used) (sym (f refl)) ∙ none_listed p used none in omega (arith, n))

    pick : (c : Bool) → has_port p used ≡ c → times z (cond c used (p ∷ used)) ≤ 1
    pick true e = once z
    pick false e = elim (eqb_tells p z) [
      | inl t ↦ new e (nat_eq p z) (λ h. t.1)
      | inr t ↦ new e (nat_eq p z) (λ h. absurd (two (nat_eq p z) h t.0))
    ]

once_from : (ports : ℕ → ℕ) (used : List ℕ) (es : List MidiEvent) → ((z : ℕ) → times z used ≤ 1) → (z : ℕ) → times z (ports_used ports used es) ≤ 1
once_from ports used [] once z = once z
once_from ports used (e ∷ es) once z =
    once_from (ports_after ports e) (with_port (is_message e.what) (port_of ports e) used) es
    (once_with (is_message e.what) (port_of ports e) used once) z

pub used_once : (es : List MidiEvent) (z : ℕ) → times z (ports_used all_zero [] es) ≤ 1
used_once es z = once_from all_zero [] es (λ y. omega arith) z

times_append : (z : ℕ) (xs : List ℕ) (y : ℕ) → times z (xs ++ y ∷ []) ≡ cond (nat_eq y z) 1 0 + times z xs
times_append z [] y = refl
times_append z (x ∷ xs) y =
    let r = times_append z xs y in
    let a : ℕ = cond (nat_eq x z) 1 0 in
    let b : ℕ = cond (nat_eq y z) 1 0 in
    let sum : a + (b + times z xs) ≡ b + (a + times z xs) = omega arith in
    ap (λ n. a + n) r ∙ sum

-- in whatever order
pub times_reverse : (z : ℕ) (xs : List ℕ) → times z (reverse xs) ≡ times z xs
times_reverse z [] = refl
times_reverse z (x ∷ xs) =
    ap (times z) (reverse_onto xs x [])
    ∙ times_append z (reverse xs) x
    ∙ ap (λ n. cond (nat_eq x z) 1 0 + n) (times_reverse z xs)

-- one that had a message is not listed anew
pub used_same : (b : Bool) (z : ℕ) (used : List ℕ) → has_port z used ≡ true → with_port b z used ≡ used
used_same false z used h = refl
used_same true z used h = ap (λ c. cond c used (z ∷ used)) h

first_same : (n m : ℕ) (ns ms : List ℕ) → n ∷ ns ≡ m ∷ ms → n ≡ m
first_same n m ns ms h = cc

abbrev pub numbers_of : List Port → List ℕ
numbers_of ports = map (λ (port : Port). port.number) ports

pub numbers_kept : (ports : List Port) (k : ℕ) (new : Port) (rest : List ℕ) → drop k (numbers_of ports) ≡ new.number ∷ rest
    → numbers_of (set ports k new) ≡ numbers_of ports
numbers_kept [] zero new rest is = refl
numbers_kept [] (suc k) new rest is = refl
numbers_kept (p ∷ ports) zero new rest is = ap (λ n. n ∷ numbers_of ports) (sym (first_same p.number new.number (numbers_of ports) rest is))
numbers_kept (p ∷ ports) (suc k) new rest is = ap (λ ns. p.number ∷ ns) (numbers_kept ports k new rest is)

-- ---- one event more

module _ (laws : Laws) (o : Options) (table : Targets) (es : List MidiEvent) (e : MidiEvent) (order : AreInOrder 0 (es ++ e ∷ [])) where
  waits : (port : Port) → nat_eq port.number (port_on es e) ≡ false → PortStands o table es port → PortStands o table (es ++ e ∷ []) port
  waits port other stands = port_waits laws o table es e port order
      (λ same. two (nat_eq port.number (port_on es e)) (eq-eqb port.number (port_on es e) (sym same)) other) stands

  -- an event of none of these ports
  pub all_wait : (ports : List Port) → has_port (port_on es e) (numbers_of ports) ≡ false → AllByRecursion (PortStands o table es) ports
      → AllByRecursion (PortStands o table (es ++ e ∷ [])) ports
  all_wait [] none stand = tt
  all_wait (p ∷ ports) none stand =
      let n = neither (nat_eq p.number (port_on es e)) (has_port (port_on es e) (numbers_of ports)) none in
      (waits p n.0 stand.0, all_wait ports n.1 stand.1)
    where
      neither : (a b : Bool) → (a || b) ≡ false → (a ≡ false) × (b ≡ false)
      neither true b h = absurd cc
      neither false b h = (refl, h)

  -- one of the port at a place, which takes it
  pub all_but : (ports : List Port) (k : ℕ) (new : Port) (rest : List ℕ) → drop k (numbers_of ports) ≡ port_on es e ∷ rest
      → times (port_on es e) (numbers_of ports) ≤ 1
      → PortStands o table (es ++ e ∷ []) new → AllByRecursion (PortStands o table es) ports
      → AllByRecursion (PortStands o table (es ++ e ∷ [])) (set ports k new)
  all_but [] k new rest is once stands stand = tt
  all_but (p ∷ ports) zero new rest is once stands stand =
      (stands, all_wait ports (not_listed (port_on es e) (numbers_of ports) (pick (nat_eq p.number (port_on es e)) here once)) stand.1)
    where
      here : nat_eq p.number (port_on es e) ≡ true
      here = eq-eqb p.number (port_on es e) (first_same p.number (port_on es e) (numbers_of ports) rest is)

      pick : (b : Bool) → b ≡ true → cond b 1 0 + times (port_on es e) (numbers_of ports) ≤ 1 → times (port_on es e) (numbers_of ports) ≡ 0
      pick true h l = omega (arith, l)
      pick false h l = absurd cc
  all_but (p ∷ ports) (suc k) new rest is once stands stand = (
    waits p (pick (nat_eq p.number (port_on es e)) refl once).0 stand.0,
    all_but ports k new rest is
        (pick (nat_eq p.number (port_on es e)) refl once).1 stands stand.1,
  )
    where
      there : (j : ℕ) (ns : List ℕ) → drop j ns ≡ port_on es e ∷ rest → 1 ≤ times (port_on es e) ns
      there zero [] h = absurd cc
      there (suc j) [] h = absurd cc
      there zero (n ∷ ns) h = some (nat_eq n (port_on es e)) (eq-eqb n (port_on es e) (first_same n (port_on es e) ns rest h))
        where
          some : (b : Bool) → b ≡ true → 1 ≤ cond b 1 0 + times (port_on es e) ns
          some true h = omega arith
          some false h = absurd cc
      there (suc j) (n ∷ ns) h = (let r = there j ns h in omega (arith, r))

      pick : (b : Bool) → nat_eq p.number (port_on es e) ≡ b → cond b 1 0 + times (port_on es e) (numbers_of ports) ≤ 1
          → (nat_eq p.number (port_on es e) ≡ false) × (times (port_on es e) (numbers_of ports) ≤ 1)
      pick true h l = absurd (let r = there k (numbers_of ports) is in omega (arith, l, r))
      pick false h l = (h, omega (arith, l))

  -- a message of kept drums, which none takes
  pub all_past : (o.keep_drums && is_drum_message e.what) ≡ true → (ports : List Port) → AllByRecursion (PortStands o table es) ports
      → AllByRecursion (PortStands o table (es ++ e ∷ [])) ports
  all_past kept [] stand = tt
  all_past kept (p ∷ ports) stand = (
    elim (eqb_tells p.number (port_on es e)) [
      | inl t ↦ drums_wait laws o table es e p order (sym t.1) kept stand.0
      | inr t ↦ waits p t.0 stand.0
    ],
    all_past kept ports stand.1,
  )
