-- What one event does to the player, as the program keeps it: for the proof of a step alone.
use Rattle.std.specs.Prelude.{Bool, ◌+◌, ◌≡◌, ◌<◌, ℕ, ◌&&◌, ◌||◌, nat_eq, if◌then◌else◌, Option, None}
use Rattle.midi_model.specs.Zones.{Zones, governor}
use Rattle.midi_model.specs.Notes.{Note, sounds}
use Rattle.midi_model.specs.Sysex.{Doing}
use Rattle.receiver.specs.declared.player.Player.{Player}
use Rattle.receiver.specs.declared.turn.Turn.{Turn}
use Rattle.receiver.specs.declared.turn.Turn.TheVariants.{SoundOff, NotesOff, Capture, Free}
use Rattle.receiver.specs.Heard.{turned_by}
use Rattle.receiver.specs.Stands.{states_of, selected_in, set_up_of, slot}
use Rattle.receiver.specs.Turns.{kept, begins, sounding_after, channels_by, zones_by, selected_by}
use Rattle.receiver.specs.Zones.{zones_in}

-- only what sounds may differ
pub record SameSetUp (r s : Player) : Type 0 where
  pub states : states_of s ≡ states_of r
  pub selected : selected_in s ≡ selected_in r
  pub zones : s.zones ≡ r.zones
  pub begun : s.begun ≡ r.begun

-- only the channels' states may differ, and what sounds
pub record SameBesideStates (r s : Player) : Type 0 where
  pub selected : selected_in s ≡ selected_in r
  pub zones : s.zones ≡ r.zones
  pub begun : s.begun ≡ r.begun

-- what sounds on each key of each channel, from what sounded there
abbrev pub SlotsBecome : (ℕ → ℕ → Option (ℕ × Note) → Option (ℕ × Note)) → Player → Player → Type 0
SlotsBecome f r s = (c k : ℕ) → c < 16 → k < 128 → slot s c k ≡ f c k (slot r c k)

-- what becomes of each note that sounds; it ends where it doesn't sound then
abbrev pub NotesBecome : (Note → Note) → Player → Player → Type 0
NotesBecome f r s = (c k : ℕ) → c < 16 → k < 128 → slot s c k ≡ kept f (slot r c k)

abbrev pub NotesStay : Player → Player → Type 0
NotesStay r s = (c k : ℕ) → c < 16 → k < 128 → slot s c k ≡ slot r c k

abbrev pub NothingSounds : Player → Type 0
NothingSounds s = (c k : ℕ) → c < 16 → k < 128 → slot s c k ≡ None

-- whether a controller of channel c reaches the notes of channel d: those that it governs, and its own where all notes end
-- or go up
abbrev pub reaches : Turn → Zones → ℕ → ℕ → Bool
reaches SoundOff z c d = nat_eq d c || nat_eq (governor z d) c
reaches NotesOff z c d = nat_eq d c || nat_eq (governor z d) c
reaches Capture z c d = nat_eq (governor z d) c
reaches Free z c d = nat_eq (governor z d) c

-- what a controller of channel c does to a note
abbrev pub turn_of : Turn → ℕ → Zones → ℕ → Note → Note
turn_of turn t z c n = if reaches turn z c n.channel && sounds n then turned_by turn t n else n

-- what one event does, by what it is to the receiver
pub record FollowsBy (r : Player) (t : ℕ) (doing : Doing) (s : Player) : Type 0 where
  pub states : states_of s ≡ channels_by (set_up_of r) doing
  pub zones : zones_in s.zones ≡ zones_by (set_up_of r) doing
  pub begun : s.begun ≡ (if begins doing then r.begun + 1 else r.begun)
  pub notes : (c k : ℕ) → c < 16 → k < 128 → slot s c k ≡ sounding_after (set_up_of r) (r.begun + 1) t doing c k (slot r c k)
  pub selected : selected_in s ≡ selected_by (set_up_of r) doing (selected_in r)
