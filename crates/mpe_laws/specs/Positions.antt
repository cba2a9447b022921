-- The musics at each position of a file, and what is given of a port's runs there.
use Rattle.std.specs.Prelude.{◌≡◌, ℕ, zero, suc, List, true, false, Option, Some, None}
use Rattle.mt_base.specs.Midi.{MidiEvent}
use Rattle.midi_model.specs.Music.{quiet}
use Rattle.retune_model.specs.Options.{Options}
use Rattle.retune_model.specs.Faults.{Targets}
use Rattle.retune_model.specs.Ports.{Numbered}
use Rattle.retune_model.specs.Pairs.{Pair}
use Rattle.channel_model.specs.BendOutput.{PortRuns}
use Rattle.channel_model.specs.MpeOutput.{Zone, Zoned, unzoned, next_zoned}
use Rattle.bend_laws.specs.Follows.{Has}
use Rattle.bend_laws.specs.Positions.{port_event}
use Rattle.mpe_laws.specs.Follows.{Follows}

-- both musics at a position, and whether the setup stands: an event of another port changes nothing
abbrev pub zoned_next : Options → Targets → List Zone → PortRuns → ℕ → Zoned → Option MidiEvent → Zoned
zoned_next o table zones runs k s None = s
zoned_next o table zones runs k s (Some e) = next_zoned o table zones runs s
    (let n : Numbered = record { position = suc k; event = e } in n)

abbrev pub zoned_at : Options → Targets → List Zone → PortRuns → List Numbered → ℕ → Zoned
zoned_at o table zones runs ns zero = unzoned
zoned_at o table zones runs ns (suc k) = zoned_next o table zones runs k (zoned_at o table zones runs ns k)
    (port_event ns (suc k))

-- before the setup nothing was played; from then on the output follows the source
pub record FollowsAt (o : Options) (table : Targets) (zones : List Zone) (runs : PortRuns) (k : ℕ)
    (s : Zoned) : Type 0 where
  pub before : s.begun ≡ false → (s.source ≡ quiet) × ((s.out ≡ quiet) × ((p : Pair) → Has (runs.pairs k) p → ⊥))
  pub after : s.begun ≡ true → Follows runs.number o table zones (runs.channel k) (runs.pairs k) s.source s.out
