-- What a receiver plays where a channel is brought to a state: the pedals and the key pressures act on the notes that sound, as
-- at any message, and nothing else does. No zone is set here.
use Rattle.std.specs.Prelude.{◌≡◌, ◌≢◌, ◌≤◌, ℕ, List, [], ◌∷◌, ◌&&◌, not, nat_eq, if◌then◌else◌, is_some, map, set, get_or}
use Rattle.mt_base.specs.Midi.{MidiEvent, Says}
use Rattle.mt_base.specs.declared.event.Msg.{Msg}
use Rattle.midi_model.specs.Channel.{Channel, State, control_of}
use Rattle.midi_model.specs.WellFormed.{IsWellFormed}
use Rattle.midi_model.specs.Zones.{no_zones}
use Rattle.midi_model.specs.Notes.{Note, sounds, is_pedal_down, ending, sostenuto, sounding_on}
use Rattle.midi_model.specs.Music.{Music, channel_at, play}
use Rattle.midi_model.specs.MusicLaws.{IsSettled}
use Rattle.midi_model.specs.Bring.{bring}
use Rattle.state_laws.specs.Reached.{reached}

-- the messages as events of one track at one tick
abbrev pub events_of : ℕ → ℕ → List Msg → List MidiEvent
events_of t track [] = []
events_of t track (m ∷ ms) = record { tick = t; track = track; what = Says m } ∷ events_of t track ms

-- the music after the messages that bring a channel from one state to another
abbrev pub brought_to : Music → ℕ → ℕ → ℕ → State → State → Music
brought_to m t track c now wanted = play m (events_of t track (bring c now wanted))

-- a note that sounds ends where its key is up, sostenuto doesn't hold it, and its hold pedal, at this value, is up
abbrev pub let_go : ℕ → ℕ → Note → Note
let_go t hold n =
    if is_some n.release && (not n.captured && not (is_pedal_down hold)) then ending t n else n

-- one stroke of both pedals of a channel: sostenuto (66), then what neither it nor the hold pedal (64) holds ends
abbrev pub pedalled : ℕ → ℕ → Channel → Channel → Note → Note
pedalled t c now wanted n =
    if nat_eq n.channel c
    then let_go t (control_of wanted 64) (sostenuto no_zones c (control_of now 66) (control_of wanted 66) n)
    else n

-- a note that sounds on the channel has the pressure of its key, where that differs
abbrev pub pressed : ℕ → List ℕ → List ℕ → Note → Note
pressed c before after n =
    if (nat_eq n.channel c && sounds n) && not (nat_eq (get_or before n.key 0) (get_or after n.key 0))
    then record n { pressure = get_or after n.key 0 }
    else n

-- what becomes of the music
pub record IsBrought (t c : ℕ) (now wanted : State) (before after : Music) : Type 0 where
  pub channels : after.channels ≡ set before.channels c (reached c now wanted).own
  pub zones : after.zones ≡ no_zones
  pub notes : after.notes ≡ map (λ n. pressed c now.keys wanted.keys (pedalled t c now.own wanted.own n)) before.notes

-- A channel of settled music without a zone that is in one well-formed state, its key pressures aside, and is to come to
-- another.
pub record CanBring (m : Music) (c : ℕ) (now wanted : State) : Type 0 where
  pub settled : IsSettled m
  pub no_zone : m.zones ≡ no_zones
  pub channel : c ≤ 15
  pub from : IsWellFormed now
  pub to : IsWellFormed wanted
  pub own : now.own ≡ channel_at m c

-- both pedals are up or down as before
pub record HasSamePedals (now wanted : Channel) : Type 0 where
  pub hold : is_pedal_down (control_of wanted 64) ≡ is_pedal_down (control_of now 64)
  pub sostenuto : is_pedal_down (control_of wanted 66) ≡ is_pedal_down (control_of now 66)

abbrev pub IsSilent : ℕ → Music → Type 0
IsSilent c m = (k : ℕ) → sounding_on c k m.notes ≡ 0

-- at most one note sounds on each key, as after any list of events
abbrev pub SoundsOnce : ℕ → Music → Type 0
SoundsOnce c m = (k : ℕ) → sounding_on c k m.notes ≤ 1

-- each key that has a pressure in the state sounds
abbrev pub SoundsWherePressed : ℕ → State → Music → Type 0
SoundsWherePressed c s m = (k : ℕ) → get_or s.keys k 0 ≢ 0 → 1 ≤ sounding_on c k m.notes
