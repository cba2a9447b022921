-- The pair that an event begins, as the parts tell it and as the definitions have it.
use Rattle.std.proofs.Common.{◌≡◌, ◌∙◌, ℕ, zero, suc, pos, Bool, true, false, cond, ◌&&◌, Option, Some, None, List, [], ◌∷◌, nat_eq, refl, sym, ap}
use Rattle.std.specs.Prelude.{is_some, filter, take, Result, Ok, Err, OnOk}
use Rattle.std.proofs.lemmas.Bool.{eqb-true, both_ways}
use Rattle.mt_base.specs.declared.event.Msg.TheVariants.{NoteOn, NoteOff, KeyPressure, Control, Program, Pressure, Bend}
use Rattle.mt_base.specs.declared.pair.Pair.{Pair as Packed}
use Rattle.mt_base.specs.Midi.{MidiWhat, Says, SysexOf, MetaOf, MidiEvent}
use Rattle.retune_model.specs.Table.{BendTarget}
use Rattle.retune_model.specs.Options.{Options, bends_notes}
use Rattle.retune_model.specs.PlaysTheSame.{bend_target_if}
use Rattle.retune_model.specs.Faults.{Targets, is_part}
use Rattle.retune_model.specs.Pairs.{Pair, pair_if}
use Rattle.retune_model.specs.Rests.{steps_of, begun_pair, is_aimed}
use Rattle.retune_model.specs.PortNeed.{AreParts, pairs_on}
use Rattle.retune_model.specs.SourceFaults.{IsSound}
use Rattle.plan_laws.specs.Counting.{PairsGoOn, BegunIsOfEvent, EventIsAimed, holds_after, with_each}
use Rattle.lifetimes.specs.Views.{pair_of}
use Rattle.lifetimes.specs.Told.{begun_by, aim_steps, aim_in, is_held, port_on, count_begun}
use Rattle.lifetimes.specs.declared.change.Begun.{Begun}
use Rattle.lifetimes.specs.declared.change.Change.{Change}
use Rattle.channel_plan.specs.Passing.{channels_in}
use Rattle.channel_plan.specs.Counts.{pairs_begun}
use Rattle.channel_plan.specs.Tallies.{serves, begun_for, IsNext}

-- a channel of a retuned part is counted where it is served
served : (o : Options) (part : Option ℕ) (c : ℕ) → is_part o c ≡ true → serves part c ≡ channels_in o part c
served o None c h = sym h
served o (Some d) c h = refl

none_either : (b : Bool) → cond b [] [] ≡ (let none : List Pair = [] in none)
none_either true = refl
none_either false = refl

passed : (p : Packed) (b : Bool) → b ≡ true → pairs_begun (cond b (Some p) None) ≡ pair_of p ∷ []
passed p true h = refl
passed p false h = absurd cc

stopped : (p : Packed) (b : Bool) → b ≡ false → pairs_begun (cond b (Some p) None) ≡ []
stopped p false h = refl
stopped p true h = absurd cc

-- a note on
module _ (o : Options) (part : Option ℕ) (table : Targets) (z y n t c k : ℕ) (bends : bends_notes o.route ≡ true)
    (parts : AreParts o (channels_in o part)) where
  abbrev target : Option BendTarget
  target = bend_target_if o.range (table k t)

  abbrev told : Begun
  told = record {
    note = n;
    pair = record { part = record { port = y; channel = c }; steps = aim_steps o table k t };
    key = k;
    target = aim_in o table k t;
  }

  one : (x : Option BendTarget) → is_some x ≡ true → nat_eq y z ≡ true
      → pair_if z c x [] ≡ record { part = record { port = y; channel = c }; steps = steps_of x } ∷ []
  one (Some x) h e = ap (λ p. let q : Pair = record { part = record { port = p; channel = c }; steps = x.steps } in q ∷ []) (sym (eqb-true y z e))
  one None h e = absurd cc

  steps : record { part = record { port = y; channel = c }; steps = steps_of target } ≡ pair_of told.pair
  steps = ap (λ b. let q : Pair = record { part = record { port = y; channel = c }; steps = cond b (steps_of target) (pos 0) } in q) (sym bends)

  note_on : (a b d : Bool) → nat_eq y z ≡ a → is_part o c ≡ b → channels_in o part c ≡ d → (d ≡ true → is_some target ≡ true)
      → cond a (cond d (pair_if z c target []) []) [] ≡ pairs_begun (begun_for z part (cond b (Some told) None))
  note_on a false true f g h aimed = absurd (both_ways (is_part o c) g (parts c h))
  note_on true false false f g h aimed = refl
  note_on false false false f g h aimed = refl
  note_on true true true f g h aimed =
      one target (aimed refl) f ∙ ap (λ p. p ∷ []) steps
      ∙ sym (passed told.pair (nat_eq y z && serves part c) (ap (λ x. x && serves part c) f ∙ served o part c g ∙ h))
  note_on true true false f g h aimed = sym (stopped told.pair (nat_eq y z && serves part c) (ap (λ x. x && serves part c) f ∙ served o part c g ∙ h))
  note_on false true d f g h aimed = sym (stopped told.pair (nat_eq y z && serves part c) (ap (λ x. x && serves part c) f))

-- any event
pub begun_told : (o : Options) (part : Option ℕ) (table : Targets) (z y n t : ℕ) (w : MidiWhat) → bends_notes o.route ≡ true
    → AreParts o (channels_in o part)
    → is_aimed o (channels_in o part) table t w ≡ true
    → cond (nat_eq y z) (begun_pair z o (channels_in o part) table t w) [] ≡ pairs_begun (begun_for z part (begun_by o table y n t w))
begun_told o part table z y n t (Says (NoteOn c k (suc v))) bends parts aimed =
    note_on o part table z y n t c k bends parts (nat_eq y z) (is_part o c) (channels_in o part c) refl refl refl
    (λ h. ap (λ b. cond b (is_some (bend_target_if o.range (table k t))) true) (sym h) ∙ aimed)
begun_told o part table z y n t (Says (NoteOn c k zero)) bends parts aimed = none_either (nat_eq y z)
begun_told o part table z y n t (Says (NoteOff c k v)) bends parts aimed = none_either (nat_eq y z)
begun_told o part table z y n t (Says (KeyPressure c k v)) bends parts aimed = none_either (nat_eq y z)
begun_told o part table z y n t (Says (Control c k v)) bends parts aimed = none_either (nat_eq y z)
begun_told o part table z y n t (Says (Program c v)) bends parts aimed = none_either (nat_eq y z)
begun_told o part table z y n t (Says (Pressure c v)) bends parts aimed = none_either (nat_eq y z)
begun_told o part table z y n t (Says (Bend c v)) bends parts aimed = none_either (nat_eq y z)
begun_told o part table z y n t (SysexOf lead bytes) bends parts aimed = none_either (nat_eq y z)
begun_told o part table z y n t (MetaOf kind bytes) bends parts aimed = none_either (nat_eq y z)

-- ---- the pairs that are counted, at the next position

pub goes_on : PairsGoOn → BegunIsOfEvent → EventIsAimed → (o : Options) (table : Targets) (es : List MidiEvent) (k : ℕ) (e : MidiEvent)
    (change : Change)
    (z : ℕ) (part : Option ℕ) → bends_notes o.route ≡ true → AreParts o (channels_in o part) → IsNext o table es k e change
    → IsSound o table (take (suc k) es)
    → (pair : Option Packed) → pair ≡ begun_for z part change.begun
    → pairs_on o (channels_in o part) table es z (suc k)
    ≡ with_each (pairs_begun pair) (filter (is_held o table (take (suc k) es)) (pairs_on o (channels_in o part) table es z k))
goes_on pairs of aimed o table es k e change z part bends parts next sound pair is =
    let y : ℕ = port_on (take k es) e in
    let f : List Pair → List Pair =
    λ bs. with_each bs (filter (holds_after o table (take (suc k) es)) (pairs_on o (channels_in o part) table es z k)) in
    pairs o (channels_in o part) table es z k e parts next.comes sound
    ∙ ap f (of o (channels_in o part) table es z k e next.comes)
    ∙ ap f (begun_told o part table z y (suc (count_begun o (take k es))) e.tick e.what bends parts
    (aimed o (channels_in o part) table es k e parts next.comes sound))
    ∙ ap (λ b. f (pairs_begun (begun_for z part b))) (sym next.tells.begun)
    ∙ ap (λ p. f (pairs_begun p)) (sym is)

pub two_ok : {A B P Q S : Type 0} (r : Result A B) → (P → Q → S) → OnOk r P → OnOk r Q → OnOk r S
two_ok (Ok a) f p q = f p q
two_ok (Err b) f p q = tt

pub on_ok : {A B P Q : Type 0} (r : Result A B) → (P → Q) → OnOk r P → OnOk r Q
on_ok (Ok a) f p = f p
on_ok (Err b) f p = tt
