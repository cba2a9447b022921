-- What playing the messages that bring a channel to a state does to a music: to the channel, and to the notes that sound on it.
use Rattle.std.specs.Prelude.{◌≡◌, ◌≢◌, ◌<◌, ℕ, List, Bool, true, false, ◌&&◌, not, nat_eq, if◌then◌else◌, Option, Some, None, is_some, map, get_or, length}
use Rattle.std.specs.List.{AllByRecursion}
use Rattle.mt_base.specs.Midi.{MidiEvent, Says}
use Rattle.mt_base.specs.Valid.{IsValidMsg}
use Rattle.midi_model.specs.Channel.{Channel, State, control_of}
use Rattle.midi_model.specs.Zones.{no_zones}
use Rattle.midi_model.specs.Notes.{Note, is_pedal_down}
use Rattle.midi_model.specs.Music.{Music, channel_at, play, state_at}
use Rattle.midi_model.specs.Bring.{bring}
use Rattle.channel_model.specs.BendOutput.{placed_at}
use Rattle.bend_laws.specs.Brought.{IsSameAside, IsReached}

-- ---- the pedals, by what they change of a note: its release is known, before and now are the values of the sostenuto pedal

-- whether it is captured
abbrev pub turned_captured : (before now : ℕ) → (release : Option (ℕ × ℕ)) → (captured : Bool) → (ended : Option ℕ) → Bool
turned_captured before now release captured (Some e) = captured
turned_captured before now release captured None =
    if is_pedal_down before then (if is_pedal_down now then captured else false)
    else (if is_pedal_down now && not (is_some release) then true else captured)

-- when it ended; hold is the value of the hold pedal now
abbrev pub turned_ended : (t before now hold : ℕ) → (release : Option (ℕ × ℕ)) → (captured : Bool) → (ended : Option ℕ) → Option ℕ
turned_ended t before now hold release captured (Some e) = Some e
turned_ended t before now hold release captured None =
    if is_some release && (not (turned_captured before now release captured None) && not (is_pedal_down hold)) then Some t else None

-- the pressure that a note has: that of its key while it sounds
abbrev pub pressed : (keys : List ℕ) (key before : ℕ) (ended : Option ℕ) → ℕ
pressed keys key before (Some e) = before
pressed keys key before None = get_or keys key 0

-- a note of a channel that goes from one state to another at tick t, with a pressure
abbrev pub turned : (t : ℕ) → (now after : Channel) → ℕ → Note → Note
turned t now after pressure n = record n {
  captured = turned_captured (control_of now 66) (control_of after 66) n.release n.captured n.ended;
  pressure = pressure;
  ended = turned_ended t (control_of now 66) (control_of after 66) (control_of after 64) n.release n.captured n.ended;
}

-- when it ended then
abbrev pub end_of : (t : ℕ) → (now after : Channel) → Note → Option ℕ
end_of t now after n = turned_ended t (control_of now 66) (control_of after 66) (control_of after 64) n.release n.captured n.ended

-- A note of a channel that is brought from one state to another at tick t.
abbrev pub brought : (t : ℕ) → (now : Channel) → (wanted : State) → Note → Note
brought t now wanted n = turned t now wanted.own (pressed wanted.keys n.key n.pressure (end_of t now wanted.own n)) n

abbrev pub brought_on : (c t : ℕ) → (now : Channel) → (wanted : State) → Note → Note
brought_on c t now wanted n = if nat_eq n.channel c then brought t now wanted n else n

pub record IsBroughtTo (c t : ℕ) (wanted : State) (m after : Music) : Type 0 where
  pub channel : IsSameAside (channel_at after c) wanted.own
  pub others : (d : ℕ) → d ≢ c → channel_at after d ≡ channel_at m d
  pub zones : after.zones ≡ m.zones
  pub notes : after.notes ≡ map (brought_on c t (channel_at m c) wanted) m.notes

-- The law of bringing: where no zone is set, the messages are valid and bring the channel to the wanted state, what is selected
-- aside; they leave all other channels and their notes; and the channel's own notes are turned by both pedals at once. `Good` says
-- which states can be brought to.
pub record BringReaches (Good : State → Type 0) : Type 0 where
  pub wide : (a : State) → Good a → length a.own.controls ≡ 120
  pub valid : (m : Music) (c : ℕ) (wanted : State) → IsReached m → c < 16 → Good wanted → AllByRecursion IsValidMsg (bring c (state_at m c) wanted)
  pub reaches : (m : Music) (e : MidiEvent) (c : ℕ) (wanted : State) → m.zones ≡ no_zones → IsReached m → c < 16
      → AllByRecursion (λ n. n.channel ≡ c → n.key < 128) m.notes → Good wanted
      → IsBroughtTo c e.tick wanted m (play m (placed_at e (map Says (bring c (state_at m c) wanted))))
