-- The law of one event on the MPE route, and of the setup.
use Rattle.std.specs.Prelude.{◌≡◌, ◌≢◌, ◌<◌, ◌+◌, ℕ, suc, ◌≤◌, List, [], ◌∷◌, true, false}
use Rattle.mt_base.specs.Midi.{MidiEvent}
use Rattle.midi_model.specs.Music.{Music, step, play}
use Rattle.retune_model.specs.Options.{ByMpe, Options}
use Rattle.retune_model.specs.Faults.{Targets, is_part}
use Rattle.channel_model.specs.MpeOutput.{Zone, zone_with, mpe_block}
use Rattle.bend_laws.specs.Moments.{Moment}
use Rattle.mpe_laws.specs.Zoned.{AreZones, SetsUp}
use Rattle.mpe_laws.specs.Follows.{Follows, IsGiven}

-- once the setup stands, each event of the port with its block keeps the relation
abbrev pub EventsKeepFollowing : Type 0
EventsKeepFollowing = (port : ℕ) (o : Options) (table : Targets) (zones : List Zone) (k : Moment) (m x : Music)
    (e : MidiEvent) →
    AreZones o zones → SetsUp o zones → Follows port o table zones k.old k.was m x →
    IsGiven port o table zones k m e →
    Follows port o table zones k.new k.is (step m e)
    (play x (mpe_block port o table zones k.was true m x k.old k.new e))

-- What is asked of the zones holds of one zone: the setup sets it up, and its master and members are as asked.
abbrev pub OneZoneIsSetUp : Type 0
OneZoneIsSetUp = (o : Options) (c a : ℕ) → suc a ≤ 15 → SetsUp o (zone_with false (c, suc a) ∷ [])

abbrev pub OneZoneIsAZone : Type 0
OneZoneIsAZone = (o : Options) (c a : ℕ) → o.route ≡ ByMpe → c < 16 → is_part o c ≡ true →
    (o.keep_drums ≡ true → suc a ≤ 8) →
    AreZones o (zone_with false (c, suc a) ∷ [])

-- And of two.
abbrev pub TwoZonesAreSetUp : Type 0
TwoZonesAreSetUp = (o : Options) (c d a b : ℕ) → suc a + suc b ≤ 14 →
    SetsUp o (zone_with false (c, suc a) ∷ zone_with true (d, suc b) ∷ [])

abbrev pub TwoZonesAreZones : Type 0
TwoZonesAreZones = (o : Options) (c d a b : ℕ) → o.route ≡ ByMpe → c < 16 → d < 16 → c ≢ d → is_part o c ≡ true →
    is_part o d ≡ true →
    suc a + suc b ≤ 14 → (o.keep_drums ≡ true → (suc a ≤ 8) × (suc b ≤ 5)) →
    AreZones o (zone_with false (c, suc a) ∷ zone_with true (d, suc b) ∷ [])
