-- In a timeline the entry in force is the one that began last.
use Rattle.std.proofs.Common.{◌≡◌, ℕ, suc, ◌+◌, ◌<◌, ◌≤◌, List, [], ◌∷◌, ◌++◌, get_or, sym, subst, arith}
use Rattle.std.specs.List.{AllByRecursion}
use Rattle.std.specs.List.Sorted.{IsStrictlyIncreasing}
use Rattle.key_pitch.specs.InForce.{IsTimeline, ticks_of, IsLast}

pub rest_rises : (x : ℕ) (xs : List ℕ) → IsStrictlyIncreasing (x ∷ xs) → IsStrictlyIncreasing xs
rest_rises x xs up k low =
    let n : ℕ = k + 1 in
    let is : n ≡ suc k = omega arith in
    let step : get_or (x ∷ xs) n 0 < get_or (x ∷ xs) (n + 1) 0 = up n (omega arith) in
    let next : n + 1 ≡ suc (k + 1) = omega arith in
    subst (λ j. get_or (x ∷ xs) j 0 < get_or xs (k + 1) 0) is (subst (λ j. get_or (x ∷ xs) n 0 < get_or (x ∷ xs) j 0) next step)

all_above : {X : Type 0} (x y : ℕ) (entries : List (ℕ × X)) → x < y → AllByRecursion (λ e. y < e.0) entries → AllByRecursion (λ e. x < e.0) entries
all_above x y [] below above = tt
all_above x y (e ∷ later) below above = let first = above.0 in (omega arith, all_above x y later below above.1)

-- a tick is before each entry behind it
pub before_all : {X : Type 0} (x : ℕ) (entries : List (ℕ × X)) → IsStrictlyIncreasing (x ∷ ticks_of entries) → AllByRecursion (λ e. x < e.0) entries
before_all x [] up = tt
before_all x (e ∷ later) up = let first : x < e.0 = up 0 (omega arith) in (first, all_above x e.0 later first (before_all e.0 later (rest_rises x (e.0 ∷ ticks_of later) up)))

placed_above : {X : Type 0} (x : ℕ) (before : List (ℕ × X)) (e : ℕ × X) (behind : List (ℕ × X)) → AllByRecursion (λ d. x < d.0) (before ++ e ∷ behind) → x < e.0
placed_above x [] e behind above = above.0
placed_above x (d ∷ before) e behind above = placed_above x before e behind above.1

none_begun : {X : Type 0} (tick from : ℕ) (entries : List (ℕ × X)) → AllByRecursion (λ e. tick < e.0) entries → AllByRecursion (λ e. e.0 ≤ tick → e.0 ≤ from) entries
none_begun tick from [] after = tt
none_begun tick from (e ∷ later) after = let first = after.0 in (λ at. absurd (omega (arith, at, first)), none_begun tick from later after.1)

begun_up_to : {X : Type 0} (tick : ℕ) (before : List (ℕ × X)) (e : ℕ × X) (behind : List (ℕ × X)) → IsStrictlyIncreasing (ticks_of (before ++ e ∷ behind))
    → AllByRecursion (λ d. tick < d.0) behind → AllByRecursion (λ d. d.0 ≤ tick → d.0 ≤ e.0) (before ++ e ∷ behind)
begun_up_to tick [] e behind up after = (λ at. omega arith, none_begun tick e.0 behind after)
begun_up_to tick (d ∷ before) e behind up after =
    let above = placed_above d.0 before e behind (before_all d.0 (before ++ e ∷ behind) up) in
    (λ at. omega (arith, above), begun_up_to tick before e behind (rest_rises d.0 (ticks_of (before ++ e ∷ behind)) up) after)

pub began_last : {X : Type 0} (tick : ℕ) (entries : List (ℕ × X)) (x : X) → IsTimeline (ticks_of entries) → (l : IsLast tick entries x)
    → AllByRecursion (λ e. e.0 ≤ tick → e.0 ≤ l.from) entries
began_last tick entries x t l =
    let P : List _ → Type 0 = λ es. AllByRecursion (λ e. e.0 ≤ tick → e.0 ≤ l.from) es in
    subst P (sym l.placed) (begun_up_to tick l.before (l.from, x) l.behind (subst (λ es. IsStrictlyIncreasing (ticks_of es)) l.placed t.ascending) l.later)
