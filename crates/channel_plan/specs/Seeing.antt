-- What the places of a row, as the program keeps them, say.
use Rattle.std.specs.Prelude.{◌≡◌, ℕ, List, Bool, true, map, IfSome}
use Rattle.std.specs.Option.{option_map}
use Rattle.retune_model.specs.Options.{Options}
use Rattle.retune_model.specs.Faults.{is_part}
use Rattle.retune_model.specs.Pairs.{Pair}
use Rattle.receiver.specs.State.{state_of}
use Rattle.receiver.specs.declared.ends.Ends.{Ends}
use Rattle.channel_plan.specs.Counts.{IsKept}
use Rattle.lifetimes.specs.Views.{pair_of}
use Rattle.plan_laws.specs.Placing.{Seen, seen_at}
use Rattle.channel_plan.specs.declared.choice.Place.{Place}

-- what a place says
abbrev pub seen : Place → Seen
seen p = record { pair = option_map pair_of p.pair; left = state_of p.left; since = p.since }

abbrev pub all_seen : List Place → List Seen
all_seen places = map seen places

-- the numbers of the runs that were on the places last
abbrev pub runs_in : List Place → List ℕ
runs_in places = map (λ p. p.run) places

-- the pair of a place is of a retuned part
abbrev pub IsPartOn : Options → Seen → Type 0
IsPartOn o s = IfSome s.pair (λ p. is_part o p.part.channel ≡ true)

abbrev pub ArePartsOn : Options → List Seen → Type 0
ArePartsOn o ss = (c : ℕ) → IsPartOn o (seen_at ss c)

-- the pair of a place is held where no note of its channel ended
abbrev pub IsKeptOn : Ends → (Pair → Bool) → Seen → Type 0
IsKeptOn ended held s = IfSome s.pair (IsKept ended held)

abbrev pub AreKeptOn : Ends → (Pair → Bool) → List Seen → Type 0
AreKeptOn ended held ss = (c : ℕ) → IsKeptOn ended held (seen_at ss c)
