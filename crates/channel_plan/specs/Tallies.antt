-- The counts of a source's ports, or of their parts, from one position to the next.
use Rattle.std.specs.Prelude.{◌≡◌, ℕ, List, Bool, true, ◌&&◌, nat_eq, if◌then◌else◌, Option, Some, None, take}
use Rattle.mt_base.specs.Midi.{MidiEvent}
use Rattle.mt_base.specs.declared.pair.Pair.{Pair as Packed}
use Rattle.retune_model.specs.Options.{Options, bends_notes}
use Rattle.retune_model.specs.Ports.{tick_to}
use Rattle.retune_model.specs.Faults.{Targets}
use Rattle.retune_model.specs.PortNeed.{AreParts, pairs_on}
use Rattle.lifetimes.specs.Told.{TellsChange}
use Rattle.lifetimes.specs.declared.change.Begun.{Begun}
use Rattle.lifetimes.specs.declared.change.Change.{Change}
use Rattle.plan_laws.specs.Counting.{ComesAt}
use Rattle.channel_plan.specs.Passing.{channels_in}
use Rattle.channel_plan.specs.Counts.{Counts, IsTimed}
use Rattle.channel_plan.specs.declared.tally.Tally.{Tally}

-- whether the notes of a channel are counted with those of a part, or with all
abbrev pub serves : Option ℕ → ℕ → Bool
serves None c = true
serves (Some d) c = nat_eq c d

-- the pair of a note that begins, where it counts for a port, or for a part of it
abbrev pub begun_for : ℕ → Option ℕ → Option Begun → Option Packed
begun_for z part None = None
begun_for z part (Some b) = if nat_eq b.pair.part.port z && serves part b.pair.part.channel then Some b.pair else None

-- A tally stands for the pairs of its notes up to position k.
pub record TallyStands (o : Options) (table : Targets) (es : List MidiEvent) (k : ℕ) (t : Tally) : Type 0 where
  pub bends : bends_notes o.route ≡ true
  pub parts : AreParts o (channels_in o t.part)
  pub counts : Counts (pairs_on o (channels_in o t.part) table es t.port) k t.counter
  pub timed : IsTimed (tick_to es) t.counter.instant

-- e is event k + 1, and what is told of it
pub record IsNext (o : Options) (table : Targets) (es : List MidiEvent) (k : ℕ) (e : MidiEvent) (change : Change) : Type 0 where
  pub comes : ComesAt es k e
  pub tells : TellsChange o table (take k es) e change
