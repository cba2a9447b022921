-- The notes of one part that sound, as the program lists them.
use Rattle.std.specs.Prelude.{◌≡◌, ◌<◌, ◌≤◌, ℕ, zero, suc, ℤ, pos, List, length, Bool, true, false, ◌&&◌, ◌||◌, not, nat_eq, nat_lt, Option, Some, None, get_or}
use Rattle.std.specs.List.{AllByRecursion, list_any}
use Rattle.key_pitch.specs.declared.aim.Aim.{Aim}
use Rattle.key_pitch.specs.declared.aim.Aim.TheVariants.{Unmapped, Bend}
use Rattle.retune_model.specs.Faults.{int_eq}
use Rattle.retune_model.specs.Pairs.{int_lt}
use Rattle.lifetimes.specs.declared.notes.Sounding.{Sounding}
use Rattle.lifetimes.specs.declared.notes.Struck.{Struck}

-- by steps, then by the key of the target, then by the source key
abbrev pub comes_before : Sounding → Sounding → Bool
comes_before a b = int_lt a.steps b.steps || (int_eq a.steps b.steps && (nat_lt a.target b.target || (nat_eq a.target b.target && nat_lt a.key b.key)))

abbrev pub is_same : Sounding → Sounding → Bool
is_same a b = int_eq a.steps b.steps && (nat_eq a.target b.target && nat_eq a.key b.key)

-- the entry of a key with a target; without a bend the key itself, with 0 steps
abbrev pub entry_of : ℕ → Aim → Sounding
entry_of k (Bend near q) = record { steps = q; target = near; key = k }
entry_of k _ = record { steps = pos 0; target = k; key = k }

-- what was struck on a key before anything was
abbrev pub unstruck : Struck
unstruck = record { note = 0; target = Unmapped }

abbrev pub struck_at : List Struck → ℕ → Struck
struck_at ss k = get_or ss k unstruck

abbrev pub entry_at : List Struck → ℕ → Sounding
entry_at ss k = entry_of k (struck_at ss k).target

abbrev pub is_listed : List Sounding → Sounding → Bool
is_listed xs x = list_any (λ y. is_same y x) xs

-- what stands beyond the end of a list
abbrev pub no_note : Sounding
no_note = record { steps = pos 0; target = 0; key = 0 }

-- each comes before all behind it
abbrev pub AreInTurn : List Sounding → Type 0
AreInTurn xs = (i j : ℕ) → i < j → j < length xs → comes_before (get_or xs i no_note) (get_or xs j no_note) ≡ true

-- the place where an entry stands or would stand
pub record IsPlaceIn (xs : List Sounding) (x : Sounding) (i : ℕ) : Type 0 where
  pub before : (k : ℕ) → k < i → comes_before (get_or xs k no_note) x ≡ true
  pub behind : (k : ℕ) → i ≤ k → k < length xs → comes_before (get_or xs k no_note) x ≡ false

-- The list has an entry for each key on which a note sounds, by what was struck there last, and no other; at k tells whether one
-- sounds on key k.
pub record ListsSounding (ss : List Struck) (xs : List Sounding) (at : ℕ → Bool) : Type 0 where
  pub own : AllByRecursion (λ x. (x.key < 128) × (entry_at ss x.key ≡ x)) xs
  pub listed : (k : ℕ) → k < 128 → is_listed xs (entry_at ss k) ≡ at k

-- whether it holds of a key below a number
abbrev pub any_key : (ℕ → Bool) → ℕ → Bool
any_key f zero = false
any_key f (suc k) = f k || any_key f k

-- the same target
abbrev pub is_beside : Sounding → Sounding → Bool
is_beside a b = int_eq a.steps b.steps && nat_eq a.target b.target

-- whether it is an entry of another key with the same target
abbrev pub is_unison : Sounding → Option Sounding → Bool
is_unison a (Some b) = not (nat_eq b.key a.key) && is_beside a b
is_unison a None = false

-- whether an entry with these steps is listed
abbrev pub has_steps : List Sounding → ℤ → Bool
has_steps xs q = list_any (λ x. int_eq x.steps q) xs
