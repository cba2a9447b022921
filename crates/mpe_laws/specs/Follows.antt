-- How the output's music follows the source's on the MPE route.
use Rattle.std.specs.Prelude.{◌≡◌, ◌<◌, ℕ, pos, ◌+ℤ◌, List, [], true, false, Some, None}
use Rattle.std.specs.List.{AllByRecursion}
use Rattle.std.specs.Set.{is_member}
use Rattle.mt_base.specs.Midi.{MidiEvent}
use Rattle.mt_base.specs.Valid.{IsValidEvent}
use Rattle.midi_model.specs.Sysex.{Resets, doing}
use Rattle.midi_model.specs.Zones.{no_zones, master}
use Rattle.midi_model.specs.Notes.{Note}
use Rattle.midi_model.specs.Music.{Music, channel_at, step}
use Rattle.midi_model.specs.MusicLaws.{IsSettled}
use Rattle.retune_model.specs.Options.{Options}
use Rattle.retune_model.specs.PlaysTheSame.{Pairwise}
use Rattle.retune_model.specs.Faults.{Targets, is_part}
use Rattle.retune_model.specs.SourceFaults.{kind_in}
use Rattle.retune_model.specs.Pairs.{Pair, is_same_pair}
use Rattle.channel_model.specs.Choice.{bend_value}
use Rattle.channel_model.specs.MpeOutput.{Zone, master_of, zone_of}
use Rattle.bend_laws.specs.Moments.{Moment}
use Rattle.bend_laws.specs.Follows.{Has, IsMatched, AreApart, SoundAmong, Begins}
use Rattle.mpe_laws.specs.Zoned.{planned, member_state, IsMember}

-- A part that has a note has a zone; and key pressure of a part is a fault on this route.
abbrev pub IsZoned : Options → List Zone → Note → Type 0
IsZoned o zones n = is_part o n.channel ≡ true → (n.pressure ≡ 0) × ((z : Zone) × (zone_of n.channel zones ≡ Some z))

-- The output follows the source: their notes are matched one by one; each master is at its part's state; each member
-- is as the setup left it, but for its bend; and the member of each pair that is there has the pair's bend. m is the
-- music of the port's source, x that of its output.
pub record Follows (port : ℕ) (o : Options) (table : Targets) (zones : List Zone)
    (place : Pair → ℕ) (there : List Pair) (m x : Music) : Type 0 where
  pub notes : Pairwise (IsMatched port o table place) m.notes x.notes
  pub zoned : AllByRecursion (IsZoned o zones) m.notes
  pub apart : AreApart o table m.notes
  pub masters : (c : ℕ) (z : Zone) → zone_of c zones ≡ Some z → channel_at x (master_of z) ≡ channel_at m c
  pub members : (d g : ℕ) → d < 16 → master (planned zones) d ≡ Some g →
      channel_at x d ≡ member_state o.range (channel_at x d).bend
  pub bent : (p : Pair) → Has there p → (channel_at x (place p)).bend ≡ bend_value (pos 8192 +ℤ p.steps)
  pub source_zones : m.zones ≡ no_zones
  pub source_settled : IsSettled m
  pub out_zones : x.zones ≡ planned zones
  pub out_settled : IsSettled x

-- What is given of one event of the port: it is valid and has no fault; what sounds before and after it is there; a
-- run keeps its member, and different pairs have different members.
pub record IsGiven (port : ℕ) (o : Options) (table : Targets) (zones : List Zone) (k : Moment)
    (before : Music) (e : MidiEvent) : Type 0 where
  pub valid : IsValidEvent e
  pub faultless : kind_in port o table e.tick before (step before e) false k.is e.what ≡ None
  pub held : SoundAmong port o table k.holds before.notes
  pub there : SoundAmong port o table k.is (step before e).notes
  -- what holds was there; what is there held its member, or the event begins a note of it
  pub was_there : (p : Pair) → Has k.holds p → Has k.was p
  pub from : (p : Pair) → Has k.is p → is_member is_same_pair k.holds p ≡ false → Begins port o table e.tick e.what p
  pub kept : (p : Pair) → Has k.was p → Has k.is p → k.new p ≡ k.old p
  pub apart_was : (p q : Pair) → Has k.was p → Has k.was q → k.old p ≡ k.old q → p ≡ q
  pub apart_is : (p q : Pair) → Has k.is p → Has k.is q → k.new p ≡ k.new q → p ≡ q
  pub member_was : (p : Pair) → Has k.was p → IsMember zones p (k.old p)
  pub member_is : (p : Pair) → Has k.is p → IsMember zones p (k.new p)
  pub reset : doing e.what ≡ Resets → k.is ≡ []
