-- The laws of the outputs.
use Rattle.std.specs.Prelude.{ℕ, Bool, List}
use Rattle.mt_base.specs.Midi.{MidiEvent}
use Rattle.retune_model.specs.Options.{Options}
use Rattle.retune_model.specs.Faults.{Targets}
use Rattle.retune_model.specs.Pairs.{Pair}
use Rattle.channel_model.specs.BendOutput.{bend_output}
use Rattle.channel_model.specs.MpeOutput.{Zone, mpe_output}
use Rattle.channel_model.specs.Rows.{zones_on}
use Rattle.bend_laws.specs.Bent.{IsBent}
use Rattle.mpe_laws.specs.Sources.{zoned_channel, IsPlannedMpe}
use Rattle.fewest_laws.specs.Fewest.{IsFewestOn, AreFewestIn}

-- What bend writes for a source with a plan for each of its ports uses the fewest channels on each port.
abbrev pub BentUsesFewest : Type 0
BentUsesFewest = (o : Options) (allowed : ℕ → Bool) (table : Targets) (es : List MidiEvent) (need : ℕ → ℕ) (channel : ℕ → ℕ → Pair → ℕ)
    → IsBent o allowed table es need channel → (z : ℕ) → IsFewestOn o allowed table es (bend_output o table channel es) z

-- What MPE writes for a source with a plan for each zone of its ports uses the fewest members of each.
abbrev pub ZonedUsesFewest : Type 0
ZonedUsesFewest = (o : Options) (table : Targets) (es : List MidiEvent) (channel : ℕ → Zone → ℕ → Pair → ℕ) → IsPlannedMpe o table es channel
    → (z : ℕ)
    → AreFewestIn o table es (mpe_output o table (zones_on o table es) (zoned_channel (zones_on o table es) channel) es) z
