-- The steps by which the program goes through the channels of a port: what is done to those that pass a test.
use Rattle.std.specs.Prelude.{◌≡◌, ◌<◌, ◌&&◌, ℕ, List, [], Bool, false, nat_eq, if◌then◌else◌}
use Rattle.mt_base.specs.declared.event.Msg.{Msg}
use Rattle.midi_model.specs.Channel.{State}
use Rattle.midi_model.specs.Bring.{bring}
use Rattle.retune_model.specs.Pairs.{Pair}
use Rattle.route_bend.specs.Channels.{is_given, is_on, state_in, pair_on, KeepsStates, KeepsGiven}
use Rattle.route_bend.specs.Sent.{relaxed}
use Rattle.route_bend.specs.declared.channels.Channels.{Channels}

-- of those channels a part keeps the ones whose pairs pass another test
pub record LeavesSome (which : ℕ → Bool) (stays : Pair → Bool) (part : ℕ) (old new : Channels) : Type 0 where
  pub kept : KeepsStates old new
  pub steps : new.steps ≡ old.steps
  pub given : (a c : ℕ) → c < 16
      → is_given new a c ≡ (if nat_eq a part && which c then is_given old a c && stays (pair_on old a c) else is_given old a c)

-- those of the channels that a part was given get states
pub record RenewsSome (which : ℕ → Bool) (wanted : Pair → State) (part : ℕ) (old new : Channels) : Type 0 where
  pub kept : KeepsGiven old new
  pub states : (c : ℕ) → c < 16
      → state_in new c ≡ (if is_given old part c && which c then wanted (pair_on old part c) else state_in old c)

-- a channel isn't given to any part any more
pub record TakesAway (channel : ℕ) (old new : Channels) : Type 0 where
  pub kept : KeepsStates old new
  pub steps : new.steps ≡ old.steps
  pub given : (a c : ℕ) → c < 16 → is_given new a c ≡ (if nat_eq c channel then false else is_given old a c)

-- what makes a channel ready for a note of a pair: nothing where the run of the pair is on it
abbrev pub readied : State → Channels → Pair → ℕ → List Msg
readied wanted s p channel = if is_on s p channel then [] else bring channel (relaxed (state_in s channel)) wanted
