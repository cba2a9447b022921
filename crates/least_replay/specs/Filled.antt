-- What is filled in of the costs of runs, by what is kept of them.
use Rattle.std.specs.Prelude.{◌≡◌, ◌<◌, ◌≤◌, ℕ, List, nat_eq, nat_le, if◌then◌else◌, map, length}
use Rattle.std.specs.List.{AllByRecursion, flat_map}
use Rattle.midi_model.specs.Channel.{default_state}
use Rattle.midi_model.specs.Bring.{bring}
use Rattle.least_replay.specs.Found.{Seen}

-- at a start
abbrev pub start_by : Seen → ℕ
start_by r = length (bring 0 default_state r.needs)

-- behind another; 65535 where that isn't over before
abbrev pub behind_by : Seen → Seen → ℕ
behind_by q r = if nat_le r.first q.last then 65535
    else if nat_eq q.resets_last r.resets_first then length (bring 0 q.left r.needs) else start_by r

abbrev pub row_by : List Seen → Seen → List ℕ
row_by rs r = map (λ q. behind_by q r) rs

-- no setup is longer than 391 messages
abbrev pub IsLowBehind : Seen → Seen → Type 0
IsLowBehind r q = q.last < r.first → behind_by q r ≤ 391

pub record IsLowRun (rs : List Seen) (r : Seen) : Type 0 where
  pub start : start_by r ≤ 391
  pub behind : AllByRecursion (IsLowBehind r) rs

-- the lengths of all runs, row by row
pub record AreFilled (rs : List Seen) (starts cells : List ℕ) : Type 0 where
  pub start : starts ≡ map start_by rs
  pub after : cells ≡ flat_map (row_by rs) rs
  pub low : AllByRecursion (IsLowRun rs) rs
