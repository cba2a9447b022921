-- Which place of a row a run is given, by what is kept of each place.
use Rattle.std.specs.Prelude.{◌≡◌, ◌<◌, ℕ, List, Bool, true, false, not, Option, Some, None, is_some, map, length, get_or}
use Rattle.midi_model.specs.Channel.{State}
use Rattle.midi_model.specs.Bring.{bring}
use Rattle.channel_model.specs.Choice.{IsNoWorse}
use Rattle.receiver.specs.State.{state_of}
use Rattle.channel_plan.specs.declared.choice.Place.{Place}
use Rattle.channel_plan.specs.declared.choice.Free.{Free}

-- how many messages bring a place to a state
abbrev pub setup_of : State → Place → ℕ
setup_of wanted p = length (bring 0 (state_of p.left) wanted)

abbrev pub is_free : Place → Bool
is_free p = not (is_some p.pair)

abbrev pub setup_at : List Place → State → ℕ → ℕ
setup_at places wanted c = get_or (map (setup_of wanted) places) c 0

abbrev pub since_at : List Place → ℕ → ℕ
since_at places c = get_or (map (λ p. p.since) places) c 0

abbrev pub is_free_at : List Place → ℕ → Bool
is_free_at places c = get_or (map is_free places) c false

-- of the first n places that are free, c is the best
pub record IsBestOf (places : List Place) (wanted : State) (n c : ℕ) : Type 0 where
  pub within : c < n
  pub free : is_free_at places c ≡ true
  pub best : (d : ℕ) → d < n → is_free_at places d ≡ true → IsNoWorse (setup_at places wanted) (since_at places) c d

abbrev pub IsChosen : List Place → State → ℕ → Type 0
IsChosen places wanted c = IsBestOf places wanted (length places) c

-- none of the first n is free
abbrev pub AreTakenTo : List Place → ℕ → Type 0
AreTakenTo places n = (d : ℕ) → d < n → is_free_at places d ≡ false

abbrev pub AreTaken : List Place → Type 0
AreTaken places = AreTakenTo places (length places)

-- the best of the first n, with its setup and since when it is free
pub record IsBestWith (places : List Place) (wanted : State) (n : ℕ) (b : Free) : Type 0 where
  pub best : IsBestOf places wanted n b.number
  pub setup : setup_at places wanted b.number ≡ b.setup
  pub since : since_at places b.number ≡ b.since

abbrev pub BestTo : List Place → State → ℕ → Option Free → Type 0
BestTo places wanted n None = AreTakenTo places n
BestTo places wanted n (Some b) = IsBestWith places wanted n b

-- a place stands at a number
pub record IsPlaceAt (places : List Place) (place : Place) (n : ℕ) : Type 0 where
  pub within : n < length places
  pub free : is_free_at places n ≡ is_free place
  pub setup : (wanted : State) → setup_at places wanted n ≡ setup_of wanted place
  pub since : since_at places n ≡ place.since
