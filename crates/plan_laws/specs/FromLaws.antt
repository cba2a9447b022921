-- Laws of the states from which runs are brought, on bend and on MPE.
use Rattle.std.specs.Prelude.{◌≡◌, ◌<◌, ℕ, suc, pos, ◌+ℤ◌, List, [], Bool, true, false, nat_lt, if◌then◌else◌, Some, length, replicate}
use Rattle.std.specs.Set.{is_member}
use Rattle.midi_model.specs.Channel.{State, default_channel, default_state}
use Rattle.midi_model.specs.Bring.{bring}
use Rattle.retune_model.specs.Options.{Options, restless}
use Rattle.retune_model.specs.Ports.{PortEvents, music_at, is_reset_at}
use Rattle.retune_model.specs.Faults.{Targets, is_part}
use Rattle.retune_model.specs.Pairs.{Pair, is_same_pair}
use Rattle.retune_model.specs.Rests.{pairs_at, held_at, IsAimedPort}
use Rattle.channel_model.specs.Choice.{wanted, bend_value, pair_on, last_on, from_state, member_bend, member_setup}
use Rattle.plan_laws.specs.Placing.{Has}
use Rattle.plan_laws.specs.PlacingLaws.{IsLeftAlone}

-- ---- on MPE: the state of a member, but for what the master has

abbrev pub bent_by : ℕ → State
bent_by bend = record { own = record default_channel { bend = bend }; keys = replicate 128 0 }

-- with the bend of a pair
abbrev pub member_state : Pair → State
member_state p = bent_by (bend_value (pos 8192 +ℤ p.steps))

-- and with that of the pair that was there last
abbrev pub member_from : PortEvents → (ℕ → List Pair) → (ℕ → ℕ) → ℕ → ℕ → State
member_from port at row c k = bent_by (member_bend (last_on (is_reset_at port.events) at row c k))

abbrev pub MemberIsLeftAlone : Type 0
MemberIsLeftAlone = (port : PortEvents) (at : ℕ → List Pair) (row : ℕ → ℕ) (k : ℕ) → is_reset_at port.events (suc k) ≡ false
    → IsLeftAlone at row (member_from port at row) k

abbrev pub MemberIsCleared : Type 0
MemberIsCleared = (port : PortEvents) (at : ℕ → List Pair) (row : ℕ → ℕ) (k c : ℕ) → is_reset_at port.events (suc k) ≡ true → at (suc k) ≡ []
    → member_from port at row c (suc k) ≡ default_state

-- a pair leaves its member with its bend
abbrev pub MemberLeaves : Type 0
MemberLeaves = (port : PortEvents) (at : ℕ → List Pair) (row : ℕ → ℕ) (k c : ℕ) (p : Pair) → at 0 ≡ [] → pair_on at row c k ≡ Some p
    → member_from port at row c k ≡ member_state p

-- what it costs to bring a member to the bend of a pair
abbrev pub MemberCosts : Type 0
MemberCosts = (port : PortEvents) (at : ℕ → List Pair) (row : ℕ → ℕ) (k c : ℕ) (p : Pair)
    → member_setup port at row p c k ≡ length (bring 0 (member_from port at row c k) (member_state p))

-- ---- on bend

abbrev pub BendIsLeftAlone : Type 0
BendIsLeftAlone = (o : Options) (table : Targets) (port : PortEvents) (row : ℕ → ℕ) (k : ℕ) → is_reset_at port.events (suc k) ≡ false
    → IsLeftAlone (pairs_at o (is_part o) table port) row (from_state o table port row) k

abbrev pub BendIsCleared : Type 0
BendIsCleared = (o : Options) (table : Targets) (port : PortEvents) (row : ℕ → ℕ) (k c : ℕ) → is_reset_at port.events (suc k) ≡ true
    → from_state o table port row c (suc k) ≡ default_state

-- a pair leaves its channel as it needs it right after the event, or, where it rested, right before
abbrev pub BendLeaves : Type 0
BendLeaves = (o : Options) (table : Targets) (port : PortEvents) (row : ℕ → ℕ) (k c : ℕ) (p : Pair) → IsAimedPort o (is_part o) table port
    → is_reset_at port.events (suc k) ≡ false → pair_on (pairs_at o (is_part o) table port) row c k ≡ Some p
    → is_member is_same_pair (pairs_at o (is_part o) table port (suc k)) p ≡ false
    → from_state o table port row c k ≡ wanted o table (music_at port.events (if nat_lt 0 o.tail then k else suc k)) p

-- where notes rest, a pair that leaves doesn't sound
abbrev pub RestsBeforeItLeaves : Type 0
RestsBeforeItLeaves = (o : Options) (part : ℕ → Bool) (table : Targets) (port : PortEvents) (k : ℕ) (p : Pair) → IsAimedPort o part table port
    → 0 < o.tail
    → is_reset_at port.events (suc k) ≡ false → is_member is_same_pair (pairs_at o part table port (suc k)) p ≡ false
    → is_member is_same_pair (pairs_at (restless o) part table port k) p ≡ false

-- where notes rest, what is held at an event that is no reset holds after it
abbrev pub HeldHolds : Type 0
HeldHolds = (o : Options) (part : ℕ → Bool) (table : Targets) (port : PortEvents) (k : ℕ) (p : Pair) → IsAimedPort o part table port → 0 < o.tail
    → is_reset_at port.events (suc k) ≡ false → Has (held_at o part table port (suc k)) p → Has (pairs_at o part table port (suc k)) p
