-- Laws of what is said of the keys in use.
use Rattle.std.specs.Prelude.{◌≡◌, ◌<◌, ◌+◌, ℕ, ℤ, pos, neg_ℤ, ◌≤ℤ◌, List, [], map, Bool, true, Option, Some, None, All, Contains}
use Rattle.mt_base.specs.Pitch.{Pitch, AtLeast, AtMost, exactly, subtracted}
use Rattle.retune_model.specs.Table.{Scaling, Bounds, IsTable, AreFewTerms, pitch_at}
use Rattle.retune_model.specs.Faults.{Targets}
use Rattle.key_report.specs.declared.keys.KeyError.{KeyError}
use Rattle.key_report.specs.declared.range.ErrorRange.{ErrorRange}
use Rattle.key_report.specs.declared.target.Target.{Target}
use Rattle.key_report.specs.Errors.{thousandth_of_a_cent, rounded_up}
use Rattle.key_report.specs.ErrorLaws.{grains_of}
use Rattle.key_report.specs.Keys.{error_if, key_errors, whole_error}
use Rattle.key_report.specs.Targets.{IsDevice, target_if, told_grains, half_step_of}

-- how far a target may be from the pitch that is meant, in thousandths of a cent: half a step of the device and a thousandth of a
-- cent, rounded outward
abbrev pub bound_of_errors : Option ℕ → ℤ
bound_of_errors range = rounded_up (pos (half_step_of range + thousandth_of_a_cent))

-- What is said of a key is so: what its target tells, less the scale pitch, is at least the least error and at most the greatest one,
-- and both are within the bound.
pub record HasError (s : Scaling) (range : Option ℕ) (onset : ℕ) (e : KeyError) : Type 0 where
  pub pitch : Pitch
  pub of_key : pitch_at s e.key onset ≡ Some pitch
  pub least : AtLeast (subtracted (exactly (told_grains range e.target)) pitch) (grains_of e.error.least)
  pub most : AtMost (subtracted (exactly (told_grains range e.target)) pitch) (grains_of e.error.greatest)
  pub within_low : neg_ℤ (bound_of_errors range) ≤ℤ e.error.least
  pub within_high : e.error.greatest ≤ℤ bound_of_errors range

-- by the table of some scales, for a note that begins at a tick; and for notes on the used keys
abbrev pub NoteErrorHolds : Type 0
NoteErrorHolds = (s : Scaling) (table : Targets) (range : Option ℕ) (onset key : ℕ) (e : KeyError) → IsTable s table → AreFewTerms s
    → IsDevice range → key < 128 → error_if range key (table key onset) ≡ Some e → HasError s range onset e

abbrev pub KeyErrorsHold : Type 0
KeyErrorsHold = (s : Scaling) (table : Targets) (range : Option ℕ) (onset : ℕ) (used : ℕ → Bool) → IsTable s table → AreFewTerms s
    → IsDevice range → All (HasError s range onset) (key_errors range (λ key. table key onset) used)

-- the target that a key is told
abbrev pub IsTold : Option ℕ → (ℕ → Option Bounds) → (ℕ → Bool) → KeyError → Type 0
IsTold range table used e = (e.key < 128) × (used e.key ≡ true) × (target_if range (table e.key) ≡ Some e.target)

-- Something is said of used keys that have a target, and of no other key.
abbrev pub UsedKeysAreTold : Type 0
UsedKeysAreTold = (range : Option ℕ) (table : ℕ → Option Bounds) (used : ℕ → Bool)
    → All (IsTold range table used) (key_errors range table used)

abbrev pub NoKeyIsLeftOut : Type 0
NoKeyIsLeftOut = (range : Option ℕ) (table : ℕ → Option Bounds) (used : ℕ → Bool) (key : ℕ) (target : Target) → key < 128 → used key ≡ true
    → target_if range (table key) ≡ Some target → Contains (map (λ e. e.key) (key_errors range table used)) key

-- The same keys in use have the same errors.
abbrev pub SameKeys : Type 0
SameKeys = (range : Option ℕ) (table : ℕ → Option Bounds) (f g : ℕ → Bool) → ((k : ℕ) → k < 128 → f k ≡ g k)
    → key_errors range table f ≡ key_errors range table g

-- The error of the whole is the least of all and the greatest of all.
pub record IsWhole (es : List KeyError) (whole : ErrorRange) : Type 0 where
  pub least : All (λ n. whole.least ≤ℤ n) (map (λ e. e.error.least) es)
  pub greatest : All (λ n. n ≤ℤ whole.greatest) (map (λ e. e.error.greatest) es)
  pub some_least : Contains (map (λ e. e.error.least) es) whole.least
  pub some_greatest : Contains (map (λ e. e.error.greatest) es) whole.greatest

-- There is one where there is an error of a key.
abbrev pub IsWholeIf : List KeyError → Option ErrorRange → Type 0
IsWholeIf es None = es ≡ []
IsWholeIf es (Some whole) = IsWhole es whole

abbrev pub WholeIsLeastToGreatest : Type 0
WholeIsLeastToGreatest = (es : List KeyError) → IsWholeIf es (whole_error es)
