-- Several channels that are brought, one after another, each from its state before all of them.
use Rattle.std.specs.Prelude.{◌≡◌, ◌≢◌, ◌≤◌, ℕ, List, [], ◌∷◌, ◌++◌, nat_eq, if◌then◌else◌, map}
use Rattle.mt_base.specs.declared.event.Msg.{Msg}
use Rattle.midi_model.specs.Channel.{State}
use Rattle.midi_model.specs.WellFormed.{IsWellFormed}
use Rattle.midi_model.specs.Zones.{no_zones}
use Rattle.midi_model.specs.Notes.{Note}
use Rattle.midi_model.specs.Music.{Music, state_at, play}
use Rattle.midi_model.specs.MusicLaws.{IsSettled}
use Rattle.midi_model.specs.Bring.{bring}
use Rattle.state_laws.specs.Reached.{Match}
use Rattle.state_laws.specs.Heard.{events_of, pedalled, pressed, brought_to, SoundsOnce, SoundsWherePressed}

-- a channel with the state that it is to have
pub record Goal : Type 0 where
  pub channel : ℕ
  pub state : State

abbrev pub bring_several : Music → List Goal → List Msg
bring_several m [] = []
bring_several m (g ∷ gs) = bring g.channel (state_at m g.channel) g.state ++ bring_several m gs

-- no goal is for this channel
abbrev pub IsFree : ℕ → List Goal → Type 0
IsFree c [] = Unit {0}
IsFree c (g ∷ gs) = (c ≢ g.channel) × IsFree c gs

-- each channel has at most one goal
abbrev pub AreDistinct : List Goal → Type 0
AreDistinct [] = Unit {0}
AreDistinct (g ∷ gs) = IsFree g.channel gs × AreDistinct gs

-- a goal that can be reached from a state: each key that is wanted pressed sounds then
pub record IsReady (t track : ℕ) (m : Music) (now : State) (g : Goal) : Type 0 where
  pub channel : g.channel ≤ 15
  pub from : IsWellFormed now
  pub wanted : IsWellFormed g.state
  pub presses : SoundsWherePressed g.channel g.state (brought_to m t track g.channel now g.state)

abbrev pub AreReady : ℕ → ℕ → Music → List Goal → Type 0
AreReady t track m [] = Unit {0}
AreReady t track m (g ∷ gs) = IsReady t track m (state_at m g.channel) g × AreReady t track m gs

-- each channel is at the state that it is to have, the selection aside
abbrev pub AreReached : Music → List Goal → Type 0
AreReached m [] = Unit {0}
AreReached m (g ∷ gs) = Match (state_at m g.channel) g.state × AreReached m gs

-- what becomes of a note: what its own channel's messages do to it
abbrev pub noted : ℕ → Music → List Goal → Note → Note
noted t m [] n = n
noted t m (g ∷ gs) n =
    let now = state_at m g.channel in
    if nat_eq n.channel g.channel
    then pressed g.channel now.keys g.state.keys (pedalled t g.channel now.own g.state.own n)
    else noted t m gs n

pub record AreBrought (t : ℕ) (before after : Music) (gs : List Goal) : Type 0 where
  pub zones : after.zones ≡ no_zones
  pub settled : IsSettled after
  pub reached : AreReached after gs
  pub others : (d : ℕ) → IsFree d gs → state_at after d ≡ state_at before d
  pub notes : after.notes ≡ map (noted t before gs) before.notes

-- settled music without a zone, in which at most one note sounds on each key
pub record CanBringSeveral (m : Music) : Type 0 where
  pub settled : IsSettled m
  pub no_zone : m.zones ≡ no_zones
  pub once : (c : ℕ) → SoundsOnce c m

-- each channel arrives, all others stay, and each note hears its own channel's messages alone
abbrev pub BringsSeveral : Type 0
BringsSeveral = (m : Music) (t track : ℕ) (gs : List Goal)
    → CanBringSeveral m → AreDistinct gs → AreReady t track m gs
    → AreBrought t m (play m (events_of t track (bring_several m gs))) gs
