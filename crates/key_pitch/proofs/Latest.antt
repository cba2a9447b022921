-- In a timeline those that have begun come first, and the last of them is in force.
use Rattle.std.proofs.Common.{◌≡◌, ℕ, zero, suc, ◌-◌, ◌<◌, ◌≤◌, List, [], ◌∷◌, length, get_or, Some, None, Bool, true, false, ap, ◌∙◌, arith}
use Rattle.std.specs.Prelude.{nat_le, if◌then◌else◌}
use Rattle.std.specs.List.{AllByRecursion}
use Rattle.std.specs.List.Sorted.{IsStrictlyIncreasing, IsPartitionPoint}
use Rattle.std.proofs.lemmas.Bool.{leb-true, leb-false, le-leb}
use Rattle.key_pitch.specs.InForce.{IsTimeline, ticks_of, later_or, in_force}
use Rattle.key_pitch.proofs.LastBegun.{none_begun}
use Rattle.key_pitch.proofs.Rising.{rest_rises, before_all}

at_place : {X : Type 0} (P : X → Type 0) (xs : List X) (k : ℕ) (d : X) → AllByRecursion P xs → k < length xs → P (get_or xs k d)
at_place P [] k d all below = absurd (omega (arith, below))
at_place P (x ∷ xs) zero d all below = all.0
at_place P (x ∷ xs) (suc k) d all below = at_place P xs k d all.1 (omega (arith, below))

-- an entry before one that has begun has begun
pub begun_before : {X : Type 0} (tick : ℕ) (entries : List (ℕ × X)) → IsStrictlyIncreasing (ticks_of entries) → (i j : ℕ) (d : ℕ × X) → i ≤ j → j < length entries
    → nat_le (get_or entries j d).0 tick ≡ true → nat_le (get_or entries i d).0 tick ≡ true
begun_before tick [] up i j d order below at = absurd (omega (arith, below))
begun_before tick (e ∷ later) up zero zero d order below at = at
begun_before tick (e ∷ later) up (suc i) zero d order below at = absurd (omega (arith, order))
begun_before tick (e ∷ later) up zero (suc j) d order below at =
    let above = at_place (λ x. e.0 < x.0) later j d (before_all e.0 later up) (omega (arith, below)) in
    let low = leb-true (get_or later j d).0 tick at in
    le-leb e.0 tick (omega (arith, above, low))
begun_before tick (e ∷ later) up (suc i) (suc j) d order below at =
    begun_before tick later (rest_rises e.0 (ticks_of later) up) i j d (omega (arith, order)) (omega (arith, below)) at

all_after : {X : Type 0} (tick : ℕ) (entries : List (ℕ × X)) (d : ℕ × X) → ((k : ℕ) → k < length entries → nat_le (get_or entries k d).0 tick ≡ false) → AllByRecursion (λ e. tick < e.0) entries
all_after tick [] d after = tt
all_after tick (e ∷ later) d after = (leb-false e.0 tick (after 0 (omega arith)), all_after tick later d (λ k below. after (suc k) (omega (arith, below))))

-- the last entry that has begun is in force
pub last_at : {X : Type 0} (tick : ℕ) (entries : List (ℕ × X)) (i : ℕ) (d : ℕ × X) → i < length entries → nat_le (get_or entries i d).0 tick ≡ true
    → ((k : ℕ) → i < k → k < length entries → nat_le (get_or entries k d).0 tick ≡ false) → in_force tick entries ≡ Some (get_or entries i d).1
last_at tick [] i d below at after = absurd (omega (arith, below))
last_at tick (e ∷ later) zero d below at after =
    ap (λ o. later_or o (if nat_le e.0 tick then Some e.1 else None))
    (none_begun tick later (all_after tick later d (λ k low. after (suc k) (omega arith) (omega (arith, low)))))
    ∙ ap (λ b. if b then Some e.1 else None) at
last_at tick (e ∷ later) (suc i) d below at after =
    ap (λ o. later_or o (if nat_le e.0 tick then Some e.1 else None))
    (last_at tick later i d (omega (arith, below)) at (λ k above low. after (suc k) (omega (arith, above)) (omega (arith, low))))

-- the first entry of a timeline has begun at each tick
pub first_begun : {X : Type 0} (tick : ℕ) (entries : List (ℕ × X)) (d : ℕ × X) → IsTimeline (ticks_of entries) → (0 < length entries) × (nat_le (get_or entries 0 d).0 tick ≡ true)
first_begun tick [] d t = absurd (omega (arith, t.some))
first_begun tick (e ∷ later) d t = (omega arith, le-leb e.0 tick (omega (arith, t.start)))

-- so many entries have begun, and those behind them haven't
abbrev pub IsBegun : {X : Type 0} → ℕ → List (ℕ × X) → ℕ → Type 0
IsBegun tick entries i = IsPartitionPoint (λ e. nat_le e.0 tick ≡ true) (λ e. nat_le e.0 tick ≡ false) entries i

not_both : (b : Bool) → b ≡ true → b ≡ false → ⊥
not_both b t f = cc

pub some_begun : {X : Type 0} (tick : ℕ) (entries : List (ℕ × X)) (i : ℕ) → IsTimeline (ticks_of entries) → IsBegun tick entries i → 1 ≤ i
some_begun tick [] i t b = absurd (omega (arith, t.some))
some_begun tick (e ∷ later) zero t b =
    let f = first_begun tick (e ∷ later) e t in
    absurd (not_both (nat_le e.0 tick) f.1 (b.1 0 e (omega arith) (omega arith)))
some_begun tick (e ∷ later) (suc i) t b = omega arith

pub last_begun_at : {X : Type 0} (tick : ℕ) (entries : List (ℕ × X)) (i : ℕ) (d : ℕ × X) → IsTimeline (ticks_of entries) → i ≤ length entries → IsBegun tick entries i
    → in_force tick entries ≡ Some (get_or entries (i - 1) d).1
last_begun_at tick entries i d t few b =
    let some = some_begun tick entries i t b in
    last_at tick entries (i - 1) d (omega (arith, some)) (b.0 (i - 1) d (omega arith) (omega (arith, some))) (λ k above below. b.1 k d (omega (arith, above)) below)
