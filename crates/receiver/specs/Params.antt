-- Parameters as the program keeps them, as entries of the list of parameters that aren't at their defaults.
use Rattle.std.specs.Prelude.{◌≡◌, ◌<◌, ℕ, Bool, List, map, length, slice_index}
use Rattle.midi_model.specs.Params.{Parameter, Entry, rank}
use Rattle.receiver.specs.declared.param.Param.{Param}

-- the parameter of this kind with this high and low byte
abbrev pub numbered : Bool → ℕ → ℕ → Parameter
numbered registered high low = record { registered = registered; high = high; low = low }

abbrev pub parameter_of : Param → Parameter
parameter_of p = numbered p.registered p.high p.low

abbrev pub entry_of : Param → Entry
entry_of p = record { parameter = parameter_of p; value = p.value }

abbrev pub entries_of : List Param → List Entry
entries_of ps = map entry_of ps

abbrev pub rank_at : Param → ℕ
rank_at p = rank (parameter_of p)

-- the parameter at a place has this rank
abbrev pub IsAt : ℕ → List Param → ℕ → Type 0
IsAt rank ps at = (at < length ps) × (slice_index (map rank_at ps) at ≡ rank)

-- all before the place have lower ranks
abbrev pub AreLower : ℕ → List Param → ℕ → Type 0
AreLower rank ps at = (k : ℕ) → k < at → slice_index (map rank_at ps) k < rank

-- the one at the place, where there is one, has a higher rank
abbrev pub IsHigher : ℕ → List Param → ℕ → Type 0
IsHigher rank ps at = at < length ps → rank < slice_index (map rank_at ps) at
