-- Laws of prices: what is measured of the runs of a port is what the choice of channels reckons with.
use Rattle.std.specs.Prelude.{◌≡◌, ◌≤◌, ℕ, List, ℤ, length}
use Rattle.mt_base.specs.Midi.{MidiEvent}
use Rattle.retune_model.specs.Options.{Options}
use Rattle.retune_model.specs.Ports.{port_at}
use Rattle.retune_model.specs.Faults.{Targets}
use Rattle.retune_model.specs.SourceFaults.{IsSound}
use Rattle.channel_model.specs.Choice.{price}
use Rattle.least_replay.specs.Cover.{Table, IsGood}
use Rattle.least_replay.specs.Assignments.{AreRuns, IsAssignment, assignment_cost}
use Rattle.least_replay.specs.Measure.{IsMeasureOf, runs_of, first_of, last_of}

-- the positions of the runs are such as runs have
abbrev pub MeasuredAreRuns : Type 0
MeasuredAreRuns = (o : Options) (table : Targets) (es : List MidiEvent) (z : ℕ) (t : Table) → IsSound o table es → IsMeasureOf o table es z t
    → AreRuns t (first_of (runs_of o table es z)) (last_of (runs_of o table es z))

-- `row b` is the place of the run that begins at position b
abbrev pub place_of : Options → Targets → List MidiEvent → ℕ → (ℕ → ℕ) → ℕ → ℕ
place_of o table es z row b = row (first_of (runs_of o table es z) b)

abbrev pub AreAssigned : Options → Targets → List MidiEvent → ℕ → Table → (ℕ → ℕ) → Type 0
AreAssigned o table es z t row =
    IsAssignment t (first_of (runs_of o table es z)) (last_of (runs_of o table es z)) (place_of o table es z row)

-- where places are an assignment, the sum of their setups is its price
abbrev pub PriceIsCost : Type 0
PriceIsCost = (o : Options) (table : Targets) (es : List MidiEvent) (z : ℕ) (t : Table) (row : ℕ → ℕ) → IsSound o table es
    → IsMeasureOf o table es z t → AreAssigned o table es z t row
    → price o table (port_at es z) row (length es) ≡ assignment_cost t (place_of o table es z row)

-- so with a good certificate no such places have a smaller price
abbrev pub NoPriceIsLess : Type 0
NoPriceIsLess = (o : Options) (table : Targets) (es : List MidiEvent) (z : ℕ) (t : Table) (u v : List ℤ) (p : ℕ) (row : ℕ → ℕ)
    → IsSound o table es → IsMeasureOf o table es z t → IsGood t u v p → AreAssigned o table es z t row
    → p ≤ price o table (port_at es z) row (length es)
