-- The zones that are planned for the parts, and the state of their members.
use Rattle.std.specs.Prelude.{◌≡◌, ◌≢◌, ◌<◌, ◌⊎◌, ℕ, List, map, [], ◌∷◌, true, false, Some}
use Rattle.std.specs.List.{AllByRecursion}
use Rattle.mt_base.specs.Midi.{Says, MidiEvent}
use Rattle.midi_model.specs.Params.{rpn, put}
use Rattle.midi_model.specs.Channel.{Channel, default_channel, default_controls, nothing_selected}
use Rattle.midi_model.specs.Zones.{Zones, no_zones, master, governor}
use Rattle.midi_model.specs.Notes.{Note, sounds}
use Rattle.midi_model.specs.Music.{Music, quiet, channel_at, play}
use Rattle.retune_model.specs.Options.{ByMpe, Options}
use Rattle.retune_model.specs.Faults.{is_part}
use Rattle.retune_model.specs.Pairs.{Pair}
use Rattle.channel_model.specs.BendOutput.{placed_at}
use Rattle.channel_model.specs.MpeOutput.{Zone, master_of, zone_of, zones_setup}

-- the sizes that the setup gives the two zones
abbrev pub planned : List Zone → Zones
planned [] = no_zones
planned (l ∷ []) = record { lower = l.members; upper = 0 }
planned (l ∷ u ∷ zs) = record { lower = l.members; upper = u.members }

-- a member: all is default, but for the bend sensitivity and its bend
abbrev pub member_state : ℕ → ℕ → Channel
member_state range bend = record {
  controls = default_controls;
  selection = nothing_selected;
  params = put (rpn 0) (range, 0) [];
  voice = record { high = 0; low = 0; program = 0 };
  bend = bend;
  pressure = 0;
}

-- What is known of the zones: each part has a master of its own, which governs itself and is no member; drums are
-- kept on a channel that is in no zone.
pub record AreZones (o : Options) (zones : List Zone) : Type 0 where
  pub route : o.route ≡ ByMpe
  pub low : (c : ℕ) (z : Zone) → zone_of c zones ≡ Some z → c < 16
  pub retuned_part : (c : ℕ) (z : Zone) → zone_of c zones ≡ Some z → is_part o c ≡ true
  pub own : (c d : ℕ) (z w : Zone) → zone_of c zones ≡ Some z → zone_of d zones ≡ Some w →
      master_of z ≡ master_of w → c ≡ d
  pub low_master : (c : ℕ) (z : Zone) → zone_of c zones ≡ Some z → master_of z < 16
  pub retuned_master : (c : ℕ) (z : Zone) → zone_of c zones ≡ Some z → is_part o (master_of z) ≡ true
  pub beside : (c d g : ℕ) (w : Zone) → master (planned zones) d ≡ Some g → zone_of c zones ≡ Some w → d ≢ master_of w
  pub retuned_member : (d g : ℕ) → master (planned zones) d ≡ Some g → is_part o d ≡ true
  pub retuned_governor : (d : ℕ) → is_part o d ≡ true → is_part o (governor (planned zones) d) ≡ true
  pub far : (c : ℕ) → is_part o c ≡ false → governor (planned zones) c ≡ c

-- the channel of a pair's run is a member of its part's zone
pub record IsMember (zones : List Zone) (p : Pair) (d : ℕ) : Type 0 where
  pub zone : Zone
  pub of : zone_of p.part.channel zones ≡ Some zone
  pub is : master (planned zones) d ≡ Some (master_of zone)
  pub low : d < 16

-- The zones are those planned, the masters are at their defaults, the members as the setup leaves them; and the notes
-- are these.
pub record IsSetUp (o : Options) (zones : List Zone) (ns : List Note) (x : Music) : Type 0 where
  pub zones_are : x.zones ≡ planned zones
  pub masters : (c : ℕ) (z : Zone) → zone_of c zones ≡ Some z → channel_at x (master_of z) ≡ default_channel
  pub members : (d g : ℕ) → d < 16 → master (planned zones) d ≡ Some g → channel_at x d ≡ member_state o.range 8192
  pub notes : x.notes ≡ ns

abbrev pub at_defaults : List Note → Music
at_defaults ns = record { channels = quiet.channels; zones = no_zones; notes = ns }

-- what the setup does where all is at its defaults and no note sounds
abbrev pub SetsUp : Options → List Zone → Type 0
SetsUp o zones = (e : MidiEvent) (ns : List Note) → AllByRecursion (λ n. sounds n ≡ false) ns →
    IsSetUp o zones ns (play (at_defaults ns) (placed_at e (map Says (zones_setup o.range zones))))

-- a channel is the master of a part's zone, or one of its members
pub record IsOfZone (zones : List Zone) (c : ℕ) : Type 0 where
  pub zone : Zone
  pub of : zone_of zone.part zones ≡ Some zone
  pub is : (c ≡ master_of zone) ⊎ (master (planned zones) c ≡ Some (master_of zone))
