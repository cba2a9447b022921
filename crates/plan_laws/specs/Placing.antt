-- The places of a row of channels at a position: the pair whose run is on each, and what is kept of those that are free.
--
-- `at k` are the pairs at position k, `row b` is the place of the run that begins at position b, and `from c k` is the state of place c
-- from which a run that begins at position k + 1 is brought, where place c is free then.
use Rattle.std.specs.Prelude.{◌≡◌, ◌<◌, ℕ, suc, List, Bool, true, if◌then◌else◌, Option, Some, None, is_some, length, get_or, set}
use Rattle.std.specs.Set.{is_member}
use Rattle.midi_model.specs.Channel.{State, default_state}
use Rattle.midi_model.specs.Bring.{bring}
use Rattle.retune_model.specs.Pairs.{Pair, is_same_pair}
use Rattle.retune_model.specs.Runs.{since}
use Rattle.channel_model.specs.Choice.{pair_on, free_since, IsNoWorse}

-- what a place says
pub record Seen : Type 0 where
  pub pair : Option Pair
  pub left : State
  pub since : ℕ

-- what stands beyond the end of a row
abbrev pub nowhere : Seen
nowhere = record { pair = None; left = default_state; since = 0 }

abbrev pub seen_at : List Seen → ℕ → Seen
seen_at ss c = get_or ss c nowhere

abbrev pub Has : List Pair → Pair → Type 0
Has ps p = is_member is_same_pair ps p ≡ true

-- the place of the run of p
abbrev pub place_at : (ℕ → List Pair) → (ℕ → ℕ) → ℕ → Pair → ℕ
place_at at row k p = row (since is_same_pair at p k)

-- the pairs of a position have places of their own among n
pub record AreApart (at : ℕ → List Pair) (row : ℕ → ℕ) (n k : ℕ) : Type 0 where
  pub within : (p : Pair) → Has (at k) p → place_at at row k p < n
  pub apart : (p q : Pair) → Has (at k) p → Has (at k) q → place_at at row k p ≡ place_at at row k q → p ≡ q

-- Each pair is on the place of its run. Of a free place its state is kept, and since when it is free.
pub record HasPlaces (at : ℕ → List Pair) (row : ℕ → ℕ) (from : ℕ → ℕ → State) (k : ℕ) (ss : List Seen) : Type 0 where
  pub runs : AreApart at row (length ss) k
  pub on : (c : ℕ) → c < length ss → (seen_at ss c).pair ≡ pair_on at row c k
  pub since : (c : ℕ) → c < length ss → (seen_at ss c).pair ≡ None → (seen_at ss c).since ≡ free_since at row c k
  pub left : (c : ℕ) → c < length ss → (seen_at ss c).pair ≡ None → (seen_at ss c).left ≡ from c k

-- a pair that stays
abbrev pub stay : List Pair → Option Pair → Option Pair
stay ps None = None
stay ps (Some p) = if is_member is_same_pair ps p then Some p else None

-- The same right after event k + 1, when the pairs that it ends are gone, and before a run begins.
pub record HasLeft (at : ℕ → List Pair) (row : ℕ → ℕ) (from : ℕ → ℕ → State) (k : ℕ) (ss : List Seen) : Type 0 where
  pub runs : AreApart at row (length ss) k
  pub on : (c : ℕ) → c < length ss → (seen_at ss c).pair ≡ stay (at (suc k)) (pair_on at row c k)
  pub since : (c : ℕ) → c < length ss → (seen_at ss c).pair ≡ None → (seen_at ss c).since ≡ free_since at row c k
  pub left : (c : ℕ) → c < length ss → (seen_at ss c).pair ≡ None → (seen_at ss c).left ≡ from c k

-- the state that was kept before, or a new one
abbrev pub or_kept : State → Option State → State
or_kept kept None = kept
or_kept kept (Some x) = x

-- A place whose pair is gone is free from a position on. `leaves p` is the state in which p leaves it, where that isn't kept yet.
abbrev pub leave_if : (Pair → Bool) → (Pair → Option State) → ℕ → Option Pair → Seen → Seen
leave_if holds leaves k None s = s
leave_if holds leaves k (Some p) s = if holds p then s else (record { pair = None; left = or_kept s.left (leaves p); since = k })

abbrev pub leave : (Pair → Bool) → (Pair → Option State) → ℕ → Seen → Seen
leave holds leaves k s = leave_if holds leaves k s.pair s

-- a place after a reset of its port
abbrev pub clear : ℕ → Seen → Seen
clear k s = record { pair = None; left = default_state; since = if is_some s.pair then k else s.since }

-- a run of a pair begins on a place
abbrev pub begun_on : Pair → Seen → Seen
begun_on p s = record { pair = Some p; left = s.left; since = s.since }

abbrev pub begin_on : List Seen → ℕ → Pair → List Seen
begin_on ss c p = set ss c (begun_on p (seen_at ss c))

-- of the places that are free, one with the shortest setup, among equals the one that is free for longest, then the first
pub record IsBestSeen (ss : List Seen) (wanted : State) (c : ℕ) : Type 0 where
  pub within : c < length ss
  pub free : (seen_at ss c).pair ≡ None
  pub best : (d : ℕ) → d < length ss → (seen_at ss d).pair ≡ None
      → IsNoWorse (λ e. length (bring 0 (seen_at ss e).left wanted)) (λ e. (seen_at ss e).since) c d
