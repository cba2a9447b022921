-- What an event does to the notes of one part, as the program keeps them.
use Rattle.std.specs.Prelude.{◌≡◌, ◌≤◌, ◌<◌, ℕ, ℤ, Bool, true, false, ◌&&◌, ◌||◌, not, if◌then◌else◌, ◌⊎◌, List, [], ◌∷◌, Option, Some, None}
use Rattle.retune_model.specs.Faults.{int_eq}
use Rattle.retune_model.specs.Rests.{is_within_tail}
use Rattle.lifetimes.specs.Lists.{ListsSounding, any_key, entry_at}
use Rattle.lifetimes.specs.Resting.{IsAdmitted, end_kept}
use Rattle.lifetimes.specs.declared.notes.Notes.{Notes}
use Rattle.lifetimes.specs.declared.notes.Sounding.{Sounding}
use Rattle.lifetimes.specs.declared.rests.Rest.{Rest}

-- whether a pair with these steps has a place among those that may rest
abbrev pub is_placed : List Rest → ℤ → Bool
is_placed [] q = false
is_placed (x ∷ xs) q = int_eq x.steps q || is_placed xs q

abbrev pub are_placed : List Rest → List Sounding → Bool
are_placed rs [] = true
are_placed rs (x ∷ xs) = is_placed rs x.steps && are_placed rs xs

-- where notes rest, each pair that sounds has one
abbrev pub IsPartKept : ℕ → Notes → Type 0
IsPartKept tail n = 0 < tail → are_placed n.rests.items.items n.sounding.items ≡ true

-- the last end of a pair that is kept, or none any more
abbrev pub IsKeptOrLost : Option ℕ → Option ℕ → Type 0
IsKeptOrLost old new = (new ≡ None) ⊎ (new ≡ old)

-- whether a note of a pair ended, by the keys on which one did
abbrev pub ends_steps : (ℕ → Bool) → Notes → ℤ → Bool
ends_steps which n q = any_key (λ k. which k && int_eq (entry_at n.struck k).steps q) 128

-- The notes on some keys ended at a tick, and their pairs rest from then on; or all ended by a reset, and none rests.
pub record PartEnds (reset : Bool) (which : ℕ → Bool) (tick tail : ℕ) (old new : Notes) : Type 0 where
  pub struck : new.struck ≡ old.struck
  pub listed : (at : ℕ → Bool) → ListsSounding old.struck old.sounding.items at
      → ListsSounding new.struck new.sounding.items (λ k. not reset && (at k && not (which k)))
  pub rests : (at : ℕ → Bool) → ListsSounding old.struck old.sounding.items at → ((k : ℕ) → k < 128 → which k ≡ true → at k ≡ true)
      → 0 < tail → (q : ℤ)
      → end_kept new.rests.items.items q ≡ (if reset then None else if ends_steps which old q then Some tick else end_kept old.rests.items.items q)
  pub still : tail ≡ 0 → (q : ℤ) → IsKeptOrLost (end_kept old.rests.items.items q) (end_kept new.rests.items.items q)
  pub placed : reset ≡ false → (q : ℤ) → IsAdmitted old.rests.items.items q → IsAdmitted new.rests.items.items q
  pub kept : IsPartKept tail old → IsPartKept tail new

-- Ends may have been forgotten that are a tail or more before a tick.
pub record PartForgets (tick tail : ℕ) (old new : Notes) : Type 0 where
  pub struck : new.struck ≡ old.struck
  pub listed : new.sounding.items ≡ old.sounding.items
  pub rests : (q : ℤ) (t : ℕ) → tick ≤ t
      → is_within_tail tail t (end_kept new.rests.items.items q) ≡ is_within_tail tail t (end_kept old.rests.items.items q)
  pub still : (q : ℤ) → IsKeptOrLost (end_kept old.rests.items.items q) (end_kept new.rests.items.items q)
  pub kept : (z : ℕ) → IsPartKept z old → IsPartKept z new
