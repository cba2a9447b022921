-- What the program keeps of the channels of the output stands for at a position of a source, by the plan of its ports.
--
-- Of one port `plan` are its runs, `ns` its events and `used` its used channels; of a file they are given by a plan of some allowed
-- channels.
use Rattle.std.specs.Prelude.{◌≡◌, ◌<◌, ℕ, zero, suc, List, [], ◌∷◌, Bool, true, false, nat_eq, if◌then◌else◌, Option, Some, None, take, length}
use Rattle.mt_base.specs.declared.event.Msg.{Msg}
use Rattle.mt_base.specs.declared.event.Msg.TheVariants.{NoteOn, NoteOff}
use Rattle.mt_base.specs.Midi.{MidiEvent, channel_of}
use Rattle.midi_model.specs.Channel.{default_channel}
use Rattle.midi_model.specs.Music.{state_at, step}
use Rattle.retune_model.specs.Options.{Options}
use Rattle.retune_model.specs.Faults.{Targets}
use Rattle.retune_model.specs.Pairs.{Pair}
use Rattle.retune_model.specs.Ports.{Numbered, of_port}
use Rattle.channel_model.specs.BendOutput.{PortRuns, runs_on, part_causes}
use Rattle.bend_laws.specs.Brought.{IsSameAside}
use Rattle.bend_laws.specs.Follows.{Has}
use Rattle.bend_laws.specs.Moments.{Both, Moment, moment}
use Rattle.bend_laws.specs.Positions.{both_at}
use Rattle.bend_laws.specs.Simulation.{IsState}
use Rattle.bend_laws.specs.Bent.{uses, IsBent}
use Rattle.plan_laws.specs.Counting.{ComesAt}
use Rattle.lifetimes.specs.Told.{port_on}
use Rattle.channel_plan.specs.Planned.{IsPlan, need_told, bend_channel}
use Rattle.channel_plan.specs.declared.plan.Plan.{Plan}
use Rattle.route_bend.specs.Channels.{is_given, is_on, state_in, pair_on}
use Rattle.route_bend.specs.declared.channels.Channels.{Channels}

-- ---- one port

-- At a position the channel of each pair that is there was given to it; no pair was given two; and each used channel is left as it is
-- in the output, what is selected and its key pressures aside.
pub record ChannelsStand (o : Options) (table : Targets) (used : ℕ → Bool) (plan : PortRuns) (ns : List Numbered) (k : ℕ)
    (s : Channels) : Type 0 where
  pub port : s.port ≡ plan.number
  pub on : (p : Pair) → Has (plan.pairs k) p → is_on s p (plan.channel k p) ≡ true
  pub once : (p : Pair) (c d : ℕ) → c < 16 → d < 16 → is_on s p c ≡ true → is_on s p d ≡ true → c ≡ d
  pub own : (c : ℕ) → used c ≡ true → IsSameAside (state_in s c).own ((both_at o table plan ns k).left c)

-- The same, where nothing is kept: no run has begun.
pub record NoneStands (o : Options) (table : Targets) (used : ℕ → Bool) (plan : PortRuns) (ns : List Numbered) (k : ℕ) : Type 0 where
  pub none : (p : Pair) → Has (plan.pairs k) p → ⊥
  pub own : (c : ℕ) → used c ≡ true → IsSameAside default_channel ((both_at o table plan ns k).left c)

abbrev pub StandIf : Options → Targets → (ℕ → Bool) → PortRuns → List Numbered → ℕ → Option Channels → Type 0
StandIf o table used plan ns k (Some s) = ChannelsStand o table used plan ns k s
StandIf o table used plan ns k None = NoneStands o table used plan ns k

-- the pairs that a part's channels were given to are there
abbrev pub IsExact : PortRuns → ℕ → ℕ → Channels → Type 0
IsExact plan k part s = (c : ℕ) → c < 16 → is_given s part c ≡ true → Has (plan.pairs k) (pair_on s part c)

-- and the channels are at the states that they have in the output
abbrev pub AreRenewed : Options → Targets → PortRuns → List Numbered → ℕ → ℕ → Channels → Type 0
AreRenewed o table plan ns k part s = (c : ℕ) → c < 16 → is_given s part c ≡ true →
    IsState (state_in s c) (state_at (both_at o table plan ns k).out c)

-- what event k + 1, a message at a tick, causes on the port
abbrev pub caused : Options → Targets → PortRuns → List Numbered → ℕ → MidiEvent → Msg → List Msg
caused o table plan ns k e m =
    let b : Both = both_at o table plan ns k in
    let w : Moment = moment plan k in
    part_causes plan.number o table w.was w.holds b.source (step b.source e) b.out w.old w.new e.tick m

-- whether a message releases a key
abbrev pub releases : Msg → Bool
releases (NoteOn c k zero) = true
releases (NoteOff c k v) = true
releases _ = false

-- whether it begins a note
abbrev pub strikes : Msg → Bool
strikes (NoteOn c k (suc v)) = true
strikes _ = false

-- whether it is of a note
abbrev pub is_note : Msg → Bool
is_note (NoteOn c k v) = true
is_note (NoteOff c k v) = true
is_note _ = false

-- Before event k + 1, which says a message of a part: what it releases was sent; else what is kept of the part's channels is exact, and
-- renewed where it is of no note.
pub record IsPrepared (o : Options) (table : Targets) (used : ℕ → Bool) (plan : PortRuns) (ns : List Numbered) (k : ℕ) (e : MidiEvent) (m : Msg)
    (s : Channels) (sent : List Msg) : Type 0 where
  pub stands : ChannelsStand o table used plan ns k s
  pub released : releases m ≡ true → sent ≡ caused o table plan ns k e m
  pub none : releases m ≡ false → sent ≡ []
  pub exact : releases m ≡ false → IsExact plan k (channel_of m) s
  pub renewed : is_note m ≡ false → AreRenewed o table plan ns k (channel_of m) s

-- ---- a file

-- a source without a fault, with a plan
pub record IsBending (o : Options) (allowed : ℕ → Bool) (table : Targets) (es : List MidiEvent) (plan : Plan) : Type 0 where
  pub bent : IsBent o allowed table es (need_told o table es) (bend_channel o allowed table es plan)
  pub planned : IsPlan o allowed table es plan

abbrev pub runs_by : Options → (ℕ → Bool) → Targets → List MidiEvent → Plan → ℕ → PortRuns
runs_by o allowed table es plan z = runs_on o table es (bend_channel o allowed table es plan) z

abbrev pub used_by : Options → (ℕ → Bool) → Targets → List MidiEvent → ℕ → ℕ → Bool
used_by o allowed table es z = uses o allowed (need_told o table es z)

-- event k + 1 is one of port z
pub record IsAt (o : Options) (allowed : ℕ → Bool) (table : Targets) (es : List MidiEvent) (plan : Plan) (k : ℕ) (e : MidiEvent)
    (z : ℕ) : Type 0 where
  pub bending : IsBending o allowed table es plan
  pub comes : ComesAt es k e
  pub within : k < length es
  pub port : z ≡ port_on (take k es) e

abbrev pub PortStands : Options → (ℕ → Bool) → Targets → List MidiEvent → Plan → ℕ → ℕ → Channels → Type 0
PortStands o allowed table es plan z k s =
    ChannelsStand o table (used_by o allowed table es z) (runs_by o allowed table es plan z) (of_port z es) k s

-- what is kept of a port
abbrev pub found_in : List Channels → ℕ → Option Channels
found_in [] z = None
found_in (s ∷ ss) z = if nat_eq s.port z then Some s else found_in ss z

abbrev pub AllStand : Options → (ℕ → Bool) → Targets → List MidiEvent → Plan → ℕ → List Channels → Type 0
AllStand o allowed table es plan k ports = (z : ℕ) →
    StandIf o table (used_by o allowed table es z) (runs_by o allowed table es plan z) (of_port z es) k (found_in ports z)
