-- Which ports have drums, and what is counted, from one position to the next.
use Rattle.std.proofs.Common.{◌≡◌, ◌≢◌, ◌∙◌, ◌≤◌, ◌<◌, ◌++◌, ℕ, zero, suc, Bool, true, false, cond, ◌&&◌, ◌||◌, nat_eq, Option, Some, None, List, [], ◌∷◌, set, length, get_or, take, drop, refl, sym, ap, subst, arith, inl, inr}
use Rattle.std.specs.List.{AllByRecursion}
use Rattle.retune_model.specs.Options.{Options}
use Rattle.retune_model.specs.Faults.{Targets}
use Rattle.retune_model.specs.PortNeed.{pairs_on}
use Rattle.plan_laws.specs.Counting.{ComesAt, NextIsTaken, PairsAreTaken}
use Rattle.lifetimes.specs.Noted.{IsNoted}
use Rattle.lifetimes.specs.declared.noted.Noted.{Noted}
use Rattle.channel_plan.specs.Passing.{channels_in}
use Rattle.channel_plan.specs.Counts.{CountsOf, IsEmpty}
use Rattle.channel_plan.specs.Tallies.{TallyStands}
use Rattle.channel_plan.specs.Surveys.{IsCounted, AreTallies}
use Rattle.channel_plan.specs.declared.counter.Counter.{Counter}
use Rattle.channel_plan.proofs.Keeping.{or_true}
use Rattle.channel_plan.proofs.Opened.{empty_counts, empty_timed}
use Rattle.std.proofs.lemmas.List.{get_or-set_same, get_or-set_other, take-append-drop}
use Rattle.std.proofs.lemmas.Bool.{eqb-true}
use Rattle.std.proofs.lemmas.Bool.Decides.{eqb_tells}
use Rattle.mt_base.specs.Midi.{MidiEvent}
use Rattle.retune_model.specs.Options.{has_drums, is_drum_message}
use Rattle.retune_model.specs.Ports.{events_on, tick_to}
use Rattle.retune_model.specs.FrontLaws.{EventsWithNext, TickOfNext}
use Rattle.lifetimes.specs.Told.{port_on}
use Rattle.channel_plan.specs.Surveys.{AreDrums, is_same_part, tally_in}
use Rattle.channel_plan.specs.declared.tally.Tally.{Tally}

-- ---- drums

or_none : (b : Bool) → (b || false) ≡ b
or_none true = refl
or_none false = refl

or_both : (a b c : Bool) → (a || (b || c)) ≡ ((a || b) || c)
or_both true b c = refl
or_both false b c = refl

drums_more : (es : List MidiEvent) (e : MidiEvent) → has_drums (es ++ e ∷ []) ≡ (has_drums es || is_drum_message e.what)
drums_more [] e = or_none (is_drum_message e.what)
drums_more (x ∷ es) e = ap (λ b. is_drum_message x.what || b) (drums_more es e)
    ∙ or_both (is_drum_message x.what) (has_drums es) (is_drum_message e.what)

module _ (law : EventsWithNext) (es : List MidiEvent) (e : MidiEvent) (z : ℕ) where
  pub events_here : port_on es e ≡ z → events_on z (es ++ e ∷ []) ≡ events_on z es ++ e ∷ []
  events_here here = law es e z ∙ elim (eqb_tells (port_on es e) z) [
    | inl t ↦ ap (λ b. cond b (events_on z es ++ e ∷ []) (events_on z es)) t.0
    | inr t ↦ absurd (t.1 here)
  ]

  pub events_elsewhere : port_on es e ≢ z → events_on z (es ++ e ∷ []) ≡ events_on z es
  events_elsewhere there = law es e z ∙ elim (eqb_tells (port_on es e) z) [
    | inl t ↦ absurd (there t.1)
    | inr t ↦ ap (λ b. cond b (events_on z es ++ e ∷ []) (events_on z es)) t.0
  ]

  pub drums_marked : (drums : List Bool) (port : ℕ) → is_drum_message e.what ≡ true → port ≡ port_on es e → port < length drums
      → get_or drums z false ≡ has_drums (events_on z es) → get_or (set drums port true) z false ≡ has_drums (events_on z (es ++ e ∷ []))
  drums_marked drums port is at low before = elim (eqb_tells z port) [
    | inl t ↦ ap (λ y. get_or (set drums port true) y false) t.1
        ∙ get_or-set_same drums port true false low
        ∙ sym (ap has_drums (events_here (sym at ∙ sym t.1)) ∙ drums_more (events_on z es) e ∙ ap (λ b. has_drums (events_on z es) || b) is
        ∙ or_true (has_drums (events_on z es)))
    | inr t ↦ get_or-set_other drums port z true false t.1
        ∙ before ∙ sym (ap has_drums (events_elsewhere (λ here. t.1 (sym here ∙ sym at))))
  ]

  pub drums_left : is_drum_message e.what ≡ false → has_drums (events_on z es) ≡ has_drums (events_on z (es ++ e ∷ []))
  drums_left is = elim (eqb_tells (port_on es e) z) [
    | inl t ↦ sym (ap has_drums (events_here t.1) ∙ drums_more (events_on z es) e ∙ ap (λ b. has_drums (events_on z es) || b) is
        ∙ or_none (has_drums (events_on z es)))
    | inr t ↦ sym (ap has_drums (events_elsewhere t.1))
  ]

-- ---- the tally that is found

pub part_is : (a b : Option ℕ) → is_same_part a b ≡ true → a ≡ b
part_is None None h = refl
part_is (Some c) (Some d) h = ap (λ x. let y : Option ℕ = Some x in y) (eqb-true c d h)
part_is None (Some d) h = absurd cc
part_is (Some c) None h = absurd cc

-- it stands for that port, and that part
pub found_in : (P : Tally → Type 0) (ts : List Tally) (z : ℕ) (part : Option ℕ) (t : Tally) → AllByRecursion P ts → tally_in ts z part ≡ Some t
    → P t × ((t.port ≡ z) × (t.part ≡ part))
found_in P [] z part t all is = absurd cc
found_in P (x ∷ ts) z part t all is =
    pick (nat_eq x.port z) (is_same_part x.part part) refl refl is (found_in P ts z part t all.1)
  where
    that : {A : Type 0} (a b : A) → Some a ≡ Some b → a ≡ b
    that a b h = cc

    pick : (a b : Bool) → nat_eq x.port z ≡ a → is_same_part x.part part ≡ b → cond (a && b) (Some x) (tally_in ts z part) ≡ Some t
        → (tally_in ts z part ≡ Some t → P t × ((t.port ≡ z) × (t.part ≡ part)))
        → P t × ((t.port ≡ z) × (t.part ≡ part))
    pick true true p q is f = subst (λ u. P u × ((u.port ≡ z) × (u.part ≡ part))) (that x t is) (all.0, (eqb-true x.port z p, part_is x.part part q))
    pick true false p q is f = f is
    pick false b p q is f = f is

pub counts_found : (o : Options) (table : Targets) (es : List MidiEvent) (ts : List Tally) (z : ℕ) (part : Option ℕ) (t : Tally)
    → AreTallies o table es (length es) ts → tally_in ts z part ≡ Some t → CountsOf o (channels_in o part) table es z t.counter
counts_found o table es ts z part t all is =
    let found = found_in (TallyStands o table es (length es)) ts z part t all.stand is in
    subst (λ y. CountsOf o (channels_in o part) table es y t.counter) found.1.0
    (subst (λ p. CountsOf o (channels_in o p) table es t.port t.counter) found.1.1
    (record { counts = found.0.counts; tick = found.0.timed.holds }))

pub counts_none : (o : Options) (table : Targets) (es : List MidiEvent) (ts : List Tally) (z : ℕ) (part : Option ℕ) (c : Counter)
    → IsEmpty c → IsCounted o part → AreTallies o table es (length es) ts → tally_in ts z part ≡ None → CountsOf o (channels_in o part) table es z c
counts_none o table es ts z part c empty is all none =
    record { counts = empty_counts _ (length es) c empty (all.others z part is none); tick = (empty_timed es c empty).holds }

pub nothing_before : (law : PairsAreTaken) (o : Options) (part : ℕ → Bool) (table : Targets) (es : List MidiEvent) (z j : ℕ) → j ≤ 0
    → pairs_on o part table es z j ≡ []
nothing_before law o part table es z j low =
    let first : j ≡ 0 = omega (arith, low) in
    ap (pairs_on o part table es z) first ∙ sym (law o part table es z 0 0 (omega arith) (omega arith)) ∙ refl

-- ---- the survey, at the next position

module _ (o : Options) (table : Targets) (es : List MidiEvent) (k : ℕ) (e : MidiEvent) (law : EventsWithNext) (next : NextIsTaken)
    (comes : ComesAt es k e) where
  one_more : take k es ++ e ∷ [] ≡ take (suc k) es
  one_more = sym (next es k e comes).0

  pub noted_next : (noted : Noted) → IsNoted o (take k es ++ e ∷ []) noted → IsNoted o (take (suc k) es) noted
  noted_next noted h = subst (λ l. IsNoted o l noted) one_more h

  pub drums_next : (drums : List Bool) → AreDrums (take k es ++ e ∷ []) drums → AreDrums (take (suc k) es) drums
  drums_next drums h = subst (λ l. AreDrums l drums) one_more h

  pub high_next : (port : ℕ) → port ≡ port_on (take k es) e → port < 256 → ((z : ℕ) → 256 ≤ z → events_on z (take k es) ≡ [])
      → (z : ℕ) → 256 ≤ z → events_on z (take (suc k) es) ≡ []
  high_next port at low before z high =
      ap (events_on z) (sym one_more)
      ∙ events_elsewhere law (take k es) e z (λ here. no (omega (arith, at, here, low, high)))
      ∙ before z high
    where
      no : ⊥ → ⊥
      no h = h

  pub tick_next : TickOfNext → e.tick ≡ tick_to es (suc k)
  tick_next tick =
      let split : es ≡ take k es ++ e ∷ drop (suc k) es = sym (take-append-drop k es) ∙ ap (λ l. take k es ++ l) comes in
      sym (ap (λ l. tick_to l (suc k)) split
      ∙ ap (λ j. tick_to (take k es ++ e ∷ drop (suc k) es) (suc j)) (sym (next es k e comes).1)
      ∙ tick (take k es) e (drop (suc k) es))

-- ---- the loop through all events

drop_one : (es : List MidiEvent) (k : ℕ) → drop (suc k) es ≡ drop 1 (drop k es)
drop_one es zero = refl
drop_one [] (suc k) = refl
drop_one (x ∷ es) (suc k) = drop_one es k

pub next_rest : (es more : List MidiEvent) (k : ℕ) (e : MidiEvent) → drop k es ≡ e ∷ more → more ≡ drop (suc k) es
next_rest es more k e is = ap (drop 1) (sym is) ∙ sym (drop_one es k)

pub next_comes : (es more : List MidiEvent) (k : ℕ) (e : MidiEvent) → drop k es ≡ e ∷ more → ComesAt es k e
next_comes es more k e is = is ∙ ap (λ l. e ∷ l) (next_rest es more k e is)

-- nothing is left behind the last position
pub is_last : (es : List MidiEvent) (k : ℕ) → drop k es ≡ [] → k ≤ length es → k ≡ length es
is_last [] zero is low = refl
is_last [] (suc k) is low = absurd (omega (arith, low))
is_last (x ∷ es) zero is low = absurd cc
is_last (x ∷ es) (suc k) is low = ap suc (is_last es k is (omega (arith, low)))
