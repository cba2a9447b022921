-- Sources that the dump and live routes take, with their tables and the bytes of their targets (this project's own).
use Rattle.std.specs.Prelude.{◌≡◌, ℕ, List}
use Rattle.std.specs.List.{AllByRecursion}
use Rattle.mt_base.specs.Midi.{MidiEvent}
use Rattle.mt_base.specs.Valid.{IsValidEvent}
use Rattle.midi_model.specs.Order.{AreInOrder}
use Rattle.retune_model.specs.Table.{Scaling, IsTable, AreFewTerms}
use Rattle.retune_model.specs.Options.{Options, ByDump, ByLive}
use Rattle.retune_model.specs.Faults.{Targets}
use Rattle.retune_model.specs.SourceFaults.{IsFaultless}
use Rattle.retune_model.specs.Dump.{IsDumpOf, tuning_at, told_value, AreChangesOf}

pub record IsDumpable (scaling : Scaling) (o : Options) (table : Targets) (bytes : List ℕ) (es : List MidiEvent) : Type 0 where
  pub route : o.route ≡ ByDump
  pub valid : AllByRecursion IsValidEvent es
  pub in_order : AreInOrder 0 es
  pub faultless : IsFaultless o table es
  pub bounds : IsTable scaling table
  pub few_terms : AreFewTerms scaling
  -- one scale throughout
  pub one_table : (key onset : ℕ) → table key onset ≡ table key 0
  pub dump : IsDumpOf o.program (tuning_at table) bytes

pub record IsLivable (scaling : Scaling) (o : Options) (table : Targets) (change : ℕ → List ℕ) (es : List MidiEvent) : Type 0 where
  pub route : o.route ≡ ByLive
  pub valid : AllByRecursion IsValidEvent es
  pub in_order : AreInOrder 0 es
  pub faultless : IsFaultless o table es
  pub bounds : IsTable scaling table
  pub few_terms : AreFewTerms scaling
  -- one scale throughout
  pub one_table : (key onset : ℕ) → table key onset ≡ table key 0
  pub changes : AreChangesOf o.program (told_value table) change
