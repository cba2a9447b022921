-- The messages that the program sends on the channels of one port.
use Rattle.std.specs.Prelude.{ℕ, List, [], ◌∷◌, ◌++◌, if◌then◌else◌, replicate}
use Rattle.mt_base.specs.declared.event.Msg.{Msg}
use Rattle.mt_base.specs.declared.event.Msg.TheVariants.{NoteOn, Control}
use Rattle.midi_model.specs.Channel.{State}
use Rattle.midi_model.specs.Bring.{bring}
use Rattle.retune_model.specs.Pairs.{Pair}
use Rattle.route_bend.specs.Channels.{is_given, state_in, pair_on, is_on}
use Rattle.route_bend.specs.declared.channels.Channels.{Channels}

-- each of some channels that a part was given is brought to what its pair needs
abbrev pub brought : (Pair → State) → Channels → ℕ → List ℕ → List Msg
brought wanted s part [] = []
brought wanted s part (c ∷ cs) =
    (if is_given s part c then bring c (state_in s c) (wanted (pair_on s part c)) else []) ++ brought wanted s part cs

-- a controller is sent on each of some channels that a part was given
abbrev pub sent : Channels → ℕ → ℕ → ℕ → List ℕ → List Msg
sent s part n v [] = []
sent s part n v (c ∷ cs) = (if is_given s part c then Control c n v ∷ [] else []) ++ sent s part n v cs

-- a state without key pressures
abbrev pub relaxed : State → State
relaxed s = record s { keys = replicate 128 0 }

-- a note of a pair begins on a channel
abbrev pub begun_on : State → Channels → Pair → ℕ → ℕ → ℕ → List Msg
begun_on wanted s p channel key velocity =
    (if is_on s p channel then [] else bring channel (relaxed (state_in s channel)) wanted) ++ NoteOn channel key velocity ∷ []
