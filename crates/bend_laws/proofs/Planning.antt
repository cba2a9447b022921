-- What is given of the runs of a port, at the positions of its file.
use Rattle.std.specs.Prelude.{◌≡◌, ◌<◌, ◌≤◌, ◌++◌, ℕ, zero, suc, List, [], Bool, true, false, Option, Some, None}
use Rattle.std.specs.List.{IsDistinct}
use Rattle.std.specs.Set.{is_member}
use Rattle.retune_model.specs.Pairs.{Pair, is_same_pair}
use Rattle.mt_base.specs.Valid.{IsValidEvent}
use Rattle.mt_base.specs.Midi.{MidiEvent}
use Rattle.midi_model.specs.Sysex.{Resets, doing}
use Rattle.midi_model.specs.Channel.{State}
use Rattle.midi_model.specs.Music.{Music, quiet, step}
use Rattle.retune_model.specs.Options.{Options}
use Rattle.retune_model.specs.Faults.{Targets, is_part}
use Rattle.retune_model.specs.Ports.{Numbered}
use Rattle.channel_model.specs.Choice.{wanted}
use Rattle.channel_model.specs.BendOutput.{PortRuns}
use Rattle.retune_model.specs.SourceFaults.{kind_in}
use Rattle.bend_laws.specs.Moments.{Moment, Both, port_block, moment}
use Rattle.bend_laws.specs.Follows.{Has, SoundAmong, Begins}
use Rattle.bend_laws.specs.Positions.{port_event, both_at}

-- the source's music at a position
abbrev pub source_next : Music → Option MidiEvent → Music
source_next m (Some e) = step m e
source_next m None = m

abbrev pub source_at : List Numbered → ℕ → Music
source_at ns zero = quiet
source_at ns (suc k) = source_next (source_at ns k) (port_event ns (suc k))

-- whether the event begins a note of this pair
abbrev pub BeginsIf : ℕ → Options → Targets → Option MidiEvent → Pair → Type 0
BeginsIf port o table (Some e) p = Begins port o table e.tick e.what p
BeginsIf port o table None p = ⊥

-- What is given of a plan up to the last position. The port's events are valid and have no fault.
pub record IsPlanned (Good : State → Type 0) (o : Options) (table : Targets) (used : ℕ → Bool) (plan : PortRuns) (ns : List Numbered)
    (last : ℕ) : Type 0 where
  pub valid : (k : ℕ) (e : MidiEvent) → k < last → port_event ns (suc k) ≡ Some e → IsValidEvent e
  pub faultless : (k : ℕ) (e : MidiEvent) → k < last → port_event ns (suc k) ≡ Some e →
      kind_in plan.number o table e.tick (source_at ns k) (source_at ns (suc k)) false (plan.pairs (suc k)) e.what ≡ None
  pub start : plan.pairs 0 ≡ []
  -- what sounds at a position is there, and holds its channel at the next event
  pub there : (k : ℕ) → k ≤ last → SoundAmong plan.number o table (plan.pairs k) (source_at ns k).notes
  pub held : (k : ℕ) → k < last → SoundAmong plan.number o table (plan.held (suc k)) (source_at ns k).notes
  -- what holds a channel at an event was there; what is there held its channel, or the event begins a note of it
  pub once : (k : ℕ) → k < last → IsDistinct is_same_pair (plan.held (suc k))
  pub was_there : (k : ℕ) (p : Pair) → k < last → Has (plan.held (suc k)) p → Has (plan.pairs k) p
  pub from : (k : ℕ) (p : Pair) → k < last → Has (plan.pairs (suc k)) p → is_member is_same_pair (plan.held (suc k)) p ≡ false →
      BeginsIf plan.number o table (port_event ns (suc k)) p
  -- a run keeps its channel; at a position different pairs have different channels; all are used ones, of parts
  pub kept : (k : ℕ) (p : Pair) → k < last → Has (plan.pairs k) p → Has (plan.pairs (suc k)) p → plan.channel (suc k) p ≡ plan.channel k p
  pub apart : (k : ℕ) (p q : Pair) → k ≤ last → Has (plan.pairs k) p → Has (plan.pairs k) q → plan.channel k p ≡ plan.channel k q → p ≡ q
  pub used_at : (k : ℕ) (p : Pair) → k ≤ last → Has (plan.pairs k) p → used (plan.channel k p) ≡ true
  pub parts : (k : ℕ) (p : Pair) → k ≤ last → Has (plan.pairs k) p → is_part o p.part.channel ≡ true
  pub ports : (k : ℕ) (p : Pair) → k ≤ last → Has (plan.pairs k) p → p.part.port ≡ plan.number
  -- what a part's channel needs can be brought to
  pub good : (k : ℕ) (p : Pair) → k ≤ last → Good (wanted o table (source_at ns k) p)
  pub reset : (k : ℕ) (e : MidiEvent) → k < last → port_event ns (suc k) ≡ Some e → doing e.what ≡ Resets → plan.pairs (suc k) ≡ []

-- the blocks up to a position, one after the other
abbrev pub block_if : ℕ → Options → Targets → Moment → Both → Option MidiEvent → List MidiEvent
block_if port o table k b (Some e) = port_block port o table k b.source b.out e
block_if port o table k b None = []

abbrev pub blocks_to : Options → Targets → PortRuns → List Numbered → ℕ → List MidiEvent
blocks_to o table plan ns zero = []
blocks_to o table plan ns (suc k) = blocks_to o table plan ns k ++ block_if plan.number o table (moment plan k) (both_at o table plan ns k)
    (port_event ns (suc k))
