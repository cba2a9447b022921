-- What an event does to the runs that go on, one by one.
use Rattle.std.specs.Prelude.{ℕ, List, [], ◌∷◌, Bool, if◌then◌else◌, Option, Some, None, map, set}
use Rattle.midi_model.specs.Channel.{State}
use Rattle.retune_model.specs.Pairs.{Pair}
use Rattle.plan_laws.specs.Placing.{or_kept}
use Rattle.least_replay.specs.Found.{Seen, Slot, seen_at}

-- ---- one run

abbrev pub change : List Seen → ℕ → (Seen → Seen) → List Seen
change rs b f = set rs b (f (seen_at rs b))

abbrev pub left_as : State → Seen → Seen
left_as x r = record r { left = x }

-- where its state isn't kept yet, it is what it is now
abbrev pub left_or : Option State → Seen → Seen
left_or x r = record r { left = or_kept r.left x }

abbrev pub over_at : (last resets : ℕ) → Seen → Seen
over_at last resets r = record r { last = last; resets_last = resets }

-- ---- all that go on

-- those that don't sound would leave their channels as they are
abbrev pub keep_run : (Pair → Bool) → (Pair → State) → Option Slot → List Seen → List Seen
keep_run sounds needs None rs = rs
keep_run sounds needs (Some x) rs = if sounds x.pair then rs else change rs x.run (left_as (needs x.pair))

abbrev pub keep_runs : (Pair → Bool) → (Pair → State) → List (Option Slot) → List Seen → List Seen
keep_runs sounds needs [] rs = rs
keep_runs sounds needs (x ∷ xs) rs = keep_runs sounds needs xs (keep_run sounds needs x rs)

-- those whose pairs don't hold are over
abbrev pub end_run : (Pair → Bool) → (Pair → Option State) → (last resets : ℕ) → Option Slot → List Seen → List Seen
end_run holds leaves last resets None rs = rs
end_run holds leaves last resets (Some x) rs =
    if holds x.pair then rs else change rs x.run (λ r. over_at last resets (left_or (leaves x.pair) r))

abbrev pub end_runs : (Pair → Bool) → (Pair → Option State) → (last resets : ℕ) → List (Option Slot) → List Seen → List Seen
end_runs holds leaves last resets [] rs = rs
end_runs holds leaves last resets (x ∷ xs) rs = end_runs holds leaves last resets xs (end_run holds leaves last resets x rs)

-- and their slots are free
abbrev pub stay_if : (Pair → Bool) → Option Slot → Option Slot
stay_if holds None = None
stay_if holds (Some x) = if holds x.pair then Some x else None

abbrev pub stay_all : (Pair → Bool) → List (Option Slot) → List (Option Slot)
stay_all holds xs = map (stay_if holds) xs
