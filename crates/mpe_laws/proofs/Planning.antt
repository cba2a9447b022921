-- What is given of the runs of a port on its zones, at the positions of its file.
use Rattle.std.specs.Prelude.{◌≡◌, ◌<◌, ◌≤◌, ℕ, suc, List, [], false, Some, None}
use Rattle.std.specs.Set.{is_member}
use Rattle.mt_base.specs.Valid.{IsValidEvent}
use Rattle.mt_base.specs.Midi.{MidiEvent}
use Rattle.midi_model.specs.Sysex.{Resets, doing}
use Rattle.retune_model.specs.Options.{Options}
use Rattle.retune_model.specs.Faults.{Targets}
use Rattle.retune_model.specs.Ports.{Numbered}
use Rattle.retune_model.specs.Pairs.{Pair, is_same_pair}
use Rattle.retune_model.specs.SourceFaults.{kind_in}
use Rattle.channel_model.specs.BendOutput.{PortRuns}
use Rattle.channel_model.specs.MpeOutput.{Zone}
use Rattle.bend_laws.specs.Follows.{Has, SoundAmong}
use Rattle.bend_laws.specs.Positions.{port_event}
use Rattle.bend_laws.proofs.Planning.{source_at, BeginsIf}
use Rattle.mpe_laws.specs.Zoned.{IsMember}

pub record IsPlanned (o : Options) (table : Targets) (zones : List Zone) (runs : PortRuns) (ns : List Numbered) (last : ℕ) : Type 0 where
  pub valid : (k : ℕ) (e : MidiEvent) → k < last → port_event ns (suc k) ≡ Some e → IsValidEvent e
  pub faultless : (k : ℕ) (e : MidiEvent) → k < last → port_event ns (suc k) ≡ Some e →
      kind_in runs.number o table e.tick (source_at ns k) (source_at ns (suc k)) false (runs.pairs (suc k)) e.what ≡ None
  pub start : runs.pairs 0 ≡ []
  pub there : (k : ℕ) → k ≤ last → SoundAmong runs.number o table (runs.pairs k) (source_at ns k).notes
  pub held : (k : ℕ) → k < last → SoundAmong runs.number o table (runs.held (suc k)) (source_at ns k).notes
  pub was_there : (k : ℕ) (p : Pair) → k < last → Has (runs.held (suc k)) p → Has (runs.pairs k) p
  pub from : (k : ℕ) (p : Pair) → k < last → Has (runs.pairs (suc k)) p → is_member is_same_pair (runs.held (suc k)) p ≡ false →
      BeginsIf runs.number o table (port_event ns (suc k)) p
  pub kept : (k : ℕ) (p : Pair) → k < last → Has (runs.pairs k) p → Has (runs.pairs (suc k)) p → runs.channel (suc k) p ≡ runs.channel k p
  pub apart : (k : ℕ) (p q : Pair) → k ≤ last → Has (runs.pairs k) p → Has (runs.pairs k) q → runs.channel k p ≡ runs.channel k q → p ≡ q
  pub member : (k : ℕ) (p : Pair) → k ≤ last → Has (runs.pairs k) p → IsMember zones p (runs.channel k p)
  pub reset : (k : ℕ) (e : MidiEvent) → k < last → port_event ns (suc k) ≡ Some e → doing e.what ≡ Resets → runs.pairs (suc k) ≡ []
