-- The channels of one port of the output, as the program keeps them.
use Rattle.std.specs.Prelude.{◌≡◌, ◌<◌, ◌≤◌, ◌&&◌, ℕ, ℤ, pos, Bool, false, nat_eq, if◌then◌else◌, get_or, map, slice_index}
use Rattle.midi_model.specs.Channel.{State, default_state}
use Rattle.retune_model.specs.Faults.{int_eq}
use Rattle.retune_model.specs.Pairs.{Pair}
use Rattle.receiver.specs.Notes.{has}
use Rattle.receiver.specs.State.{state_of}
use Rattle.route_bend.specs.declared.channels.Channels.{Channels}

-- whether channel c was given to a run of part a last
abbrev pub is_given : Channels → ℕ → ℕ → Bool
is_given s a c = has (slice_index s.given a) c

-- no channel from this one on was given to a run of part a
abbrev pub EndBy : Channels → ℕ → ℕ → Type 0
EndBy s a end = (c : ℕ) → end ≤ c → c < 16 → is_given s a c ≡ false

abbrev pub steps_in : Channels → ℕ → ℤ
steps_in s c = get_or s.steps c (pos 0)

abbrev pub state_in : Channels → ℕ → State
state_in s c = get_or (map state_of s.states) c default_state

-- the pair of the run, where it is one of part a
abbrev pub pair_on : Channels → ℕ → ℕ → Pair
pair_on s a c = record { part = record { port = s.port; channel = a }; steps = steps_in s c }

-- whether channel c was given to a run of a pair of the port last
abbrev pub is_on : Channels → Pair → ℕ → Bool
is_on s p c = is_given s p.part.channel c && int_eq (steps_in s c) p.steps

-- ---- what is changed

-- the states alone are as they were
pub record KeepsStates (old new : Channels) : Type 0 where
  pub port : new.port ≡ old.port
  pub states : new.states ≡ old.states

-- all but the states
pub record KeepsGiven (old new : Channels) : Type 0 where
  pub port : new.port ≡ old.port
  pub given : new.given ≡ old.given
  pub steps : new.steps ≡ old.steps

-- of a part the channels stay given that pass a test
pub record Leaves (stays : Pair → Bool) (part : ℕ) (old new : Channels) : Type 0 where
  pub kept : KeepsStates old new
  pub steps : new.steps ≡ old.steps
  pub given : (a c : ℕ) → c < 16
      → is_given new a c ≡ (if nat_eq a part then is_given old a c && stays (pair_on old a c) else is_given old a c)

-- the channels that a part was given get states
pub record Renews (wanted : Pair → State) (part : ℕ) (old new : Channels) : Type 0 where
  pub kept : KeepsGiven old new
  pub states : (c : ℕ) → c < 16 → state_in new c ≡ (if is_given old part c then wanted (pair_on old part c) else state_in old c)

-- a channel is given to a pair alone
pub record Gives (p : Pair) (channel : ℕ) (old new : Channels) : Type 0 where
  pub kept : KeepsStates old new
  pub given : (a c : ℕ) → c < 16 → is_given new a c ≡ (if nat_eq c channel then nat_eq a p.part.channel else is_given old a c)
  pub steps : (c : ℕ) → c < 16 → steps_in new c ≡ (if nat_eq c channel then p.steps else steps_in old c)

-- a run of a pair begins on a channel, which gets a state
pub record BeginsOn (p : Pair) (channel : ℕ) (wanted : State) (old new : Channels) : Type 0 where
  pub port : new.port ≡ old.port
  pub given : (a c : ℕ) → c < 16 → is_given new a c ≡ (if nat_eq c channel then nat_eq a p.part.channel else is_given old a c)
  pub steps : (c : ℕ) → c < 16 → steps_in new c ≡ (if nat_eq c channel then p.steps else steps_in old c)
  pub states : (c : ℕ) → c < 16 → state_in new c ≡ (if nat_eq c channel then wanted else state_in old c)

-- no channel is given, and all are at their defaults
pub record IsFresh (s : Channels) : Type 0 where
  pub given : (a c : ℕ) → is_given s a c ≡ false
  pub states : (c : ℕ) → c < 16 → state_in s c ≡ default_state
