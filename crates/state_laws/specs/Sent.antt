-- Which messages bring a channel to a state, and how many parameters count on the way.
use Rattle.std.specs.Prelude.{◌≡◌, ◌≤◌, ℕ, List, [], ◌∷◌, Bool, true, false, max, take}
use Rattle.std.specs.List.{AllByRecursion}
use Rattle.mt_base.specs.Midi.{channel_of}
use Rattle.mt_base.specs.Valid.{IsValidMsg}
use Rattle.mt_base.specs.declared.event.Msg.{Msg}
use Rattle.mt_base.specs.declared.event.Msg.TheVariants.{NoteOn, NoteOff, KeyPressure, Control, Program, Pressure, Bend}
use Rattle.midi_model.specs.Channel.{State, Selection, Role, Stored, EntryHigh, EntryLow, NrpnLow, NrpnHigh, RpnLow, RpnHigh, role, target, counted, apply_state}
use Rattle.midi_model.specs.WellFormed.{is_value}
use Rattle.midi_model.specs.Bring.{apply_all, bring}
use Rattle.state_laws.specs.Reached.{OfWellFormed}

-- what holds of each message with the state before it
abbrev pub Along : (State → Msg → Type 0) → State → List Msg → Type 0
Along P s [] = Unit {0}
Along P s (m ∷ ms) = P s m × Along P (apply_state s m) ms

-- a controller that is stored, a byte of a parameter's number, and data entry of a parameter that has a value
abbrev pub only_sets_by : Selection → Role → Bool
only_sets_by sel Stored = true
only_sets_by sel EntryHigh = is_value (target sel)
only_sets_by sel EntryLow = is_value (target sel)
only_sets_by sel NrpnLow = true
only_sets_by sel NrpnHigh = true
only_sets_by sel RpnLow = true
only_sets_by sel RpnHigh = true
only_sets_by sel _ = false

-- a message that begins and releases no note, resets nothing, and chooses neither a zone nor a tuning program
abbrev pub only_sets : State → Msg → Bool
only_sets s (Control c n v) = only_sets_by s.own.selection (role n)
only_sets s (NoteOn c k v) = false
only_sets s (NoteOff c k v) = false
only_sets s (KeyPressure c k v) = true
only_sets s (Program c p) = true
only_sets s (Pressure c v) = true
only_sets s (Bend c v) = true

-- one to this channel
pub record OnlySets (c : ℕ) (s : State) (m : Msg) : Type 0 where
  pub channel : channel_of m ≡ c
  pub sets : only_sets s m ≡ true

abbrev pub SendsOnlySettings : Type 0
SendsOnlySettings = OfWellFormed (λ c now wanted. c ≤ 15 → Along (OnlySets c) now (bring c now wanted))

abbrev pub SendsValidOnes : Type 0
SendsValidOnes = OfWellFormed (λ c now wanted. c ≤ 15 → AllByRecursion IsValidMsg (bring c now wanted))

-- after any of the messages no more parameters count than at one of the ends
abbrev pub HasRoom : Type 0
HasRoom = OfWellFormed (λ c now wanted. (k : ℕ) → c ≤ 15
    → counted (apply_all now (take k (bring c now wanted))).own ≤ max (counted now.own) (counted wanted.own))
