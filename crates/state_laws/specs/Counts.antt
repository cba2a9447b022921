-- How many messages bring a channel to a state.
use Rattle.std.specs.Prelude.{◌≡◌, ◌≤◌, ℕ, ◌+◌, ◌*◌, List, [], ◌∷◌, not, nat_eq, if◌then◌else◌, length, filter}
use Rattle.midi_model.specs.Params.{Parameter, Entry, rank, pair_eq, default_value, value_of}
use Rattle.midi_model.specs.Channel.{State, counted}
use Rattle.midi_model.specs.WellFormed.{IsWellFormed}
use Rattle.midi_model.specs.Bring.{bring}
use Rattle.state_laws.specs.Reached.{OfWellFormed, changed}

-- at how many places two lists differ
abbrev pub differing : List ℕ → List ℕ → ℕ
differing (x ∷ xs) (y ∷ ys) = (if nat_eq x y then 0 else 1) + differing xs ys
differing _ _ = 0

-- How many parameters differ: of those that are away from their defaults now, the ones that are wanted at them, and of those
-- that are wanted away from their defaults, the ones that have another value now.
abbrev pub differing_params : List Entry → List Entry → ℕ
differing_params now wanted =
    length (filter (λ e. pair_eq (value_of wanted e.parameter) (default_value e.parameter)) now)
    + length (filter (λ e. not (pair_eq (value_of now e.parameter) e.value)) wanted)

-- nine, one for each controller and each key pressure that differs, and four for each parameter that does
abbrev pub few : State → State → ℕ
few now wanted = 9
    + differing now.own.controls wanted.own.controls
    + 4 * differing_params now.own.params wanted.own.params
    + differing now.keys wanted.keys

abbrev pub SendsFewOnes : Type 0
SendsFewOnes = OfWellFormed (λ c now wanted. length (bring c now wanted) ≤ few now wanted)

-- the most, where at most 16 parameters count in each state
abbrev pub SendsAtMost : Type 0
SendsAtMost = OfWellFormed (λ c now wanted.
    counted now.own ≤ 16 → counted wanted.own ≤ 16 → length (bring c now wanted) ≤ 391)

-- how many of the entries are of this parameter
abbrev pub entries_of : Parameter → List Entry → ℕ
entries_of p [] = 0
entries_of p (e ∷ es) = (if nat_eq (rank e.parameter) (rank p) then 1 else 0) + entries_of p es

-- each parameter that differs is set once, and no other
abbrev pub ChangesThoseThatDiffer : Type 0
ChangesThoseThatDiffer = (now wanted : State) (p : Parameter) → IsWellFormed now → IsWellFormed wanted
    → entries_of p (changed now wanted)
    ≡ (if pair_eq (value_of now.own.params p) (value_of wanted.own.params p) then 0 else 1)

-- as many on each channel
abbrev pub SendsAsMany : Type 0
SendsAsMany = (c d : ℕ) (now wanted : State) → length (bring c now wanted) ≡ length (bring d now wanted)
