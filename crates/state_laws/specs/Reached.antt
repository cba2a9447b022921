-- What the messages that bring a channel to a state reach.
use Rattle.std.specs.Prelude.{◌≡◌, ◌≢◌, ℕ, List, [], ◌++◌, true}
use Rattle.midi_model.specs.Params.{Entry}
use Rattle.midi_model.specs.Channel.{State, Selection, nothing_selected}
use Rattle.midi_model.specs.Bring.{to_default, to_other, bring, apply_all}
use Rattle.midi_model.specs.WellFormed.{IsWellFormed}

-- the state but for its selection
abbrev pub unselected : State → State
unselected s = record { own = record s.own { selection = nothing_selected }; keys = s.keys }

-- the two are equal, the selection aside
abbrev pub Match : State → State → Type 0
Match a b = unselected a ≡ unselected b

-- the parameters that differ, with their wanted values, in the order in which they are set
abbrev pub changed : State → State → List Entry
changed now wanted =
    to_default now.own.params wanted.own.params ++ to_other now.own.params wanted.own.params

-- no parameter is selected: data entry does nothing
pub record IsClosed (s : Selection) : Type 0 where
  pub registered : s.registered ≡ true
  pub rpn : s.rpn ≡ (127, 127)

-- the state after the messages that bring a channel from one state to another
abbrev pub reached : ℕ → State → State → State
reached c now wanted = apply_all now (bring c now wanted)

-- a sentence about any two well-formed states and a channel
abbrev pub OfWellFormed : (ℕ → State → State → Type 0) → Type 0
OfWellFormed P = (c : ℕ) (now wanted : State) → IsWellFormed now → IsWellFormed wanted → P c now wanted

-- the channel is at the wanted state, the selection aside
abbrev pub Reaches : Type 0
Reaches = OfWellFormed (λ c now wanted. Match (reached c now wanted) wanted)

-- where no parameter differs, the selection is as it was
abbrev pub KeepsTheSelection : Type 0
KeepsTheSelection = OfWellFormed (λ c now wanted.
    changed now wanted ≡ [] → (reached c now wanted).own.selection ≡ now.own.selection)

-- where one differs, nothing is selected in the end
abbrev pub ClosesTheSelection : Type 0
ClosesTheSelection = OfWellFormed (λ c now wanted.
    changed now wanted ≢ [] → IsClosed (reached c now wanted).own.selection)

-- what is selected at the ends makes no difference to the messages
abbrev pub IgnoresTheSelections : Type 0
IgnoresTheSelections = (c : ℕ) (a b now wanted : State)
    → Match a now → Match b wanted → bring c a b ≡ bring c now wanted
