-- What is in force at a tick is the last entry that has begun.
use Rattle.std.proofs.Common.{◌≡◌, ◌≢◌, ℕ, ◌<◌, ◌≤◌, List, [], ◌∷◌, ◌++◌, Option, Some, None, Bool, true, false, refl, ap, sym, ◌∙◌, arith}
use Rattle.std.specs.Prelude.{nat_le, if◌then◌else◌}
use Rattle.std.specs.List.{AllByRecursion}
use Rattle.std.proofs.lemmas.Bool.{leb-true, leb-false, le-leb, lt-leb}
use Rattle.key_pitch.specs.InForce.{IsTimeline, ticks_of, later_or, in_force, IsLast}

-- nothing is in force exactly where every entry is after the tick
pub none_begun : {X : Type 0} (tick : ℕ) (entries : List (ℕ × X)) → AllByRecursion (λ e. tick < e.0) entries → in_force tick entries ≡ None
none_begun tick [] after = refl
none_begun tick (e ∷ later) after = ap (λ o. later_or o (if nat_le e.0 tick then Some e.1 else None)) (none_begun tick later after.1)
    ∙ ap (λ b. if b then Some e.1 else None) (lt-leb e.0 tick after.0)

after_both : {X : Type 0} (tick : ℕ) (e : ℕ × X) (later : List (ℕ × X)) → (in_force tick later ≡ None → AllByRecursion (λ d. tick < d.0) later)
    → (o : Option X) (b : Bool) → in_force tick later ≡ o → nat_le e.0 tick ≡ b
    → later_or o (if b then Some e.1 else None) ≡ None → AllByRecursion (λ d. tick < d.0) (e ∷ later)
after_both tick e later after (Some x) b o_is b_is none = absurd (cc)
after_both tick e later after None true o_is b_is none = absurd (cc)
after_both tick e later after None false o_is b_is none = (leb-false e.0 tick b_is, after o_is)

all_after : {X : Type 0} (tick : ℕ) (entries : List (ℕ × X)) → in_force tick entries ≡ None → AllByRecursion (λ e. tick < e.0) entries
all_after tick [] none = tt
all_after tick (e ∷ later) none = after_both tick e later (all_after tick later) (in_force tick later) (nat_le e.0 tick) refl refl none

last_both : {X : Type 0} (tick : ℕ) (e : ℕ × X) (later : List (ℕ × X)) (x : X) → (in_force tick later ≡ Some x → IsLast tick later x)
    → (o : Option X) (b : Bool) → in_force tick later ≡ o → nat_le e.0 tick ≡ b
    → later_or o (if b then Some e.1 else None) ≡ Some x → IsLast tick (e ∷ later) x
last_both tick e later x last (Some y) b o_is b_is is = let l = last (o_is ∙ is) in record {
  before = e ∷ l.before;
  from = l.from;
  behind = l.behind;
  placed = ap (λ es. e ∷ es) l.placed;
  begun = l.begun;
  later = l.later;
}
last_both tick e later x last None true o_is b_is is = let same : e.1 ≡ x = cc in record {
  before = [];
  from = e.0;
  behind = later;
  placed = ap (λ y. (e.0, y) ∷ later) same;
  begun = leb-true e.0 tick b_is;
  later = all_after tick later o_is;
}
last_both tick e later x last None false o_is b_is is = absurd (cc)

pub last_begun : {X : Type 0} (tick : ℕ) (entries : List (ℕ × X)) (x : X) → in_force tick entries ≡ Some x → IsLast tick entries x
last_begun tick [] x is = absurd (cc)
last_begun tick (e ∷ later) x is = last_both tick e later x (last_begun tick later x) (in_force tick later) (nat_le e.0 tick) refl refl is

placed_last : {X : Type 0} (tick : ℕ) (before : List (ℕ × X)) (e : ℕ × X) (behind : List (ℕ × X)) → e.0 ≤ tick → AllByRecursion (λ d. tick < d.0) behind
    → in_force tick (before ++ e ∷ behind) ≡ Some e.1
placed_last tick [] e behind at after = ap (λ o. later_or o (if nat_le e.0 tick then Some e.1 else None)) (none_begun tick behind after)
    ∙ ap (λ b. if b then Some e.1 else None) (le-leb e.0 tick at)
placed_last tick (d ∷ before) e behind at after = ap (λ o. later_or o (if nat_le d.0 tick then Some d.1 else None)) (placed_last tick before e behind at after)

pub only_last : {X : Type 0} (tick : ℕ) (entries : List (ℕ × X)) (x : X) → IsLast tick entries x → in_force tick entries ≡ Some x
only_last tick entries x l = ap (in_force tick) l.placed ∙ placed_last tick l.before (l.from, x) l.behind l.begun l.later

begun_both : {X : Type 0} (o : Option X) (x : X) → later_or o (Some x) ≢ None
begun_both (Some y) x is = cc
begun_both None x is = cc

-- a timeline has something in force at every tick
pub always_begun : {X : Type 0} (tick : ℕ) (entries : List (ℕ × X)) → IsTimeline (ticks_of entries) → in_force tick entries ≢ None
always_begun tick [] t is = omega (arith, t.some)
always_begun tick (e ∷ later) t is =
    let at : e.0 ≤ tick = omega (arith, t.start) in
    begun_both (in_force tick later) e.1 (ap (λ b. later_or (in_force tick later) (if b then Some e.1 else None)) (sym (le-leb e.0 tick at)) ∙ is)
