-- What the player and the receiver, as the program keeps them, stand for.
use Rattle.std.specs.Prelude.{◌≡◌, ◌<◌, ◌≤◌, ℕ, List, length, map, get_or, slice_index, Option, None}
use Rattle.std.specs.List.{AllByRecursion}
use Rattle.mt_base.specs.Midi.{MidiEvent, MidiWhat, Says, channel_of}
use Rattle.midi_model.specs.Channel.{Channel, default_channel, apply, counted}
use Rattle.midi_model.specs.Notes.{Note}
use Rattle.midi_model.specs.Music.{Music}
use Rattle.midi_model.specs.Receiver.{after}
use Rattle.receiver.specs.declared.player.Player.{Player}
use Rattle.receiver.specs.declared.receiver.Receiver.{Receiver}
use Rattle.receiver.specs.declared.tunings.Tunings.{Tunings}
use Rattle.receiver.specs.declared.ends.Ends.{Ends}
use Rattle.receiver.specs.Heard.{heard}
use Rattle.receiver.specs.Notes.{has}
use Rattle.receiver.specs.Sounding.{sounding_at, ended_on}
use Rattle.receiver.specs.State.{own_of}
use Rattle.receiver.specs.Tunings.{value_in}
use Rattle.receiver.specs.Turns.{set_up}
use Rattle.receiver.specs.Zones.{zones_in}

abbrev pub states_of : Player → List Channel
states_of p = map (λ s. own_of s.state) p.channels

-- the tuning program that each channel has selected
abbrev pub selected_in : Player → List (Option ℕ)
selected_in p = map (λ s. s.state.tuning) p.channels

-- its channels and zones
abbrev pub set_up_of : Player → Music
set_up_of p = set_up (states_of p) (zones_in p.zones)

-- the note that sounds on key k of channel c, with its number
abbrev pub slot : Player → ℕ → ℕ → Option (ℕ × Note)
slot p c k = get_or (map (λ s. heard c s k) p.channels) c None

-- whether at most 16 parameters count on each channel
abbrev pub AreFew : Music → Type 0
AreFew m = AllByRecursion (λ s. counted s ≤ 16) m.channels

-- A player stands for a list of events where all that it keeps is what the definition gives for the list, which is within the
-- limit.
pub record PlayerStands (p : Player) (es : List MidiEvent) : Type 0 where
  pub channels : states_of p ≡ (after es).music.channels
  pub zones : zones_in p.zones ≡ (after es).music.zones
  pub begun : p.begun ≡ length (after es).music.notes
  pub notes : (c k : ℕ) → c < 16 → k < 128 → slot p c k ≡ sounding_at (after es).music.notes c k
  pub selected : selected_in p ≡ (after es).tuning.selected
  pub few : AreFew (after es).music

-- the music of a receiver
abbrev pub player_of : Receiver → Player
player_of r = r.player

-- tuning programs whose values are those that the definition gives for a list of events
abbrev pub HoldValues : Tunings → List MidiEvent → Type 0
HoldValues t es = (p k : ℕ) → p < 128 → k < 128 → value_in t p k ≡ (after es).tuning.values p k

-- A receiver stands for a list of events where its music does, and its tuning programs hold the values.
pub record Stands (r : Receiver) (es : List MidiEvent) : Type 0 where
  pub player : PlayerStands (player_of r) es
  pub values : HoldValues r.tunings es

-- whether an event leaves its channel with at most 16 parameters that count
abbrev pub HasRoomIn : List Channel → MidiWhat → Type 0
HasRoomIn ss (Says msg) = counted (apply (get_or ss (channel_of msg) default_channel) msg) ≤ 16
HasRoomIn ss _ = Unit {0}

abbrev pub HasRoom : Player → MidiWhat → Type 0
HasRoom p what = HasRoomIn (states_of p) what

-- how many notes began
abbrev pub begun_in : Player → ℕ
begun_in p = p.begun

-- bit k of channel c is set exactly where a note of that key and channel ended between two moments
abbrev pub TellsEnded : Ends → List Note → List Note → Type 0
TellsEnded ends before later = (c k : ℕ) → c < 16 → k < 128 → has (slice_index ends.keys c) k ≡ ended_on c k before later
