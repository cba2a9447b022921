-- Single controllers that act on the notes of their channel by one stroke of its pedals, and notes that a stroke leaves alike.
use Rattle.std.specs.Prelude.{◌≡◌, ◌≤◌, ℕ, [], ◌∷◌, true, length, map}
use Rattle.mt_base.specs.declared.event.Msg.{Msg}
use Rattle.mt_base.specs.declared.event.Msg.TheVariants.{Control}
use Rattle.midi_model.specs.Channel.{Channel, control_of, apply}
use Rattle.midi_model.specs.WellFormed.{is_stored}
use Rattle.midi_model.specs.Zones.{no_zones}
use Rattle.midi_model.specs.Notes.{Note, without_pressure}
use Rattle.midi_model.specs.Music.{Music, channel_at, play}
use Rattle.midi_model.specs.MusicLaws.{IsSettled}
use Rattle.state_laws.specs.Heard.{events_of, pedalled}

-- settled music without a zone, with 120 controllers on this channel
pub record CanControl (m : Music) (c : ℕ) : Type 0 where
  pub settled : IsSettled m
  pub no_zone : m.zones ≡ no_zones
  pub channel : c ≤ 15
  pub controls : length (channel_at m c).controls ≡ 120

-- the music after one message
abbrev pub said : Music → ℕ → ℕ → Msg → Music
said m t track msg = play m (events_of t track (msg ∷ []))

-- the stroke of the pedals that a message makes
abbrev pub stroke : Music → ℕ → ℕ → Msg → Note → Note
stroke m t c msg n = pedalled t c (channel_at m c) (apply (channel_at m c) msg) n

-- a controller that is stored
abbrev pub ControlsStroke : Type 0
ControlsStroke = (m : Music) (t track c n v : ℕ) → CanControl m c → is_stored n ≡ true
    → (said m t track (Control c n v)).notes ≡ map (stroke m t c (Control c n v)) m.notes

-- reset all controllers, after it has set the pressures to 0
abbrev pub ResetStrokes : Type 0
ResetStrokes = (m : Music) (t track c v : ℕ) → CanControl m c
    → (said m t track (Control c 121 v)).notes
    ≡ map (λ n. stroke m t c (Control c 121 v) (without_pressure c n)) m.notes

-- what a stroke of the pedals looks at
pub record AreAlike (a b : Note) : Type 0 where
  pub release : b.release ≡ a.release
  pub captured : b.captured ≡ a.captured
  pub ended : b.ended ≡ a.ended

-- the values of the pedals between which a stroke goes
pub record HasSameStroke (before after other_before other_after : Channel) : Type 0 where
  pub sostenuto : control_of other_before 66 ≡ control_of before 66
  pub next_sostenuto : control_of other_after 66 ≡ control_of after 66
  pub next_hold : control_of other_after 64 ≡ control_of after 64

-- two notes on two channels that are alike are so after the same stroke of their pedals
abbrev pub StrokesAgree : Type 0
StrokesAgree = (t c d : ℕ) (s now x wanted : Channel) (a b : Note) → a.channel ≡ c → b.channel ≡ d
    → HasSameStroke s now x wanted → AreAlike a b → AreAlike (pedalled t c s now a) (pedalled t d x wanted b)
