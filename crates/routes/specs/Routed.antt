-- The output of the dump and live routes for a table that holds throughout.
use Rattle.std.specs.Prelude.{◌≡◌, ◌≤◌, ℕ, List, Bool, true, false, ◌&&◌, not}
use Rattle.std.specs.List.{AllByRecursion}
use Rattle.mt_base.specs.Midi.{MidiEvent}
use Rattle.mt_base.specs.Valid.{IsValidEvent}
use Rattle.midi_model.specs.Sysex.{doing}
use Rattle.midi_model.specs.Order.{AreInOrder}
use Rattle.midi_model.specs.TuningBytes.{dump_bytes, change_bytes}
use Rattle.retune_model.specs.Table.{Scaling, IsTable, AreFewTerms}
use Rattle.retune_model.specs.Options.{Route, ByLive, Options, bends_notes}
use Rattle.retune_model.specs.Faults.{Targets, is_part}
use Rattle.retune_model.specs.Ports.{events_on}
use Rattle.retune_model.specs.PortOutput.{through_ports_from}
use Rattle.retune_model.specs.Blocks.{written}
use Rattle.retune_model.specs.Routes.{Live, Told, live_block, live_next}
use Rattle.retune_model.specs.SourceFaults.{IsFaultless}
use Rattle.retune_model.specs.Dump.{has_note_on, parts_with_notes, dump_if, values_from, tuning_at, told_value, dumped, told_live}

-- the dump of the table's targets, and the change of a key to its target
abbrev pub dump_of : Options → Targets → List ℕ
dump_of o table = dump_bytes o.program (values_from (tuning_at table) 0 128)

abbrev pub change_of : Options → Targets → ℕ → List ℕ
change_of o table key = change_bytes o.program key (told_value table key)

-- what the route of the options writes for a source
abbrev pub routed_by : Route → Options → Targets → List MidiEvent → List MidiEvent
routed_by ByLive o table es = told_live o (change_of o table) es
routed_by _ o table es = dumped o (dump_of o table) es

abbrev pub routed : Options → Targets → List MidiEvent → List MidiEvent
routed o table es = routed_by o.route o table es

abbrev pub is_live : Route → Bool
is_live ByLive = true
is_live _ = false

-- What is told on a port by its events: on dump it is as on live, but with a dump in the setup, and no part is told key by key.
abbrev pub lives : Bool → Options → Targets → List MidiEvent → Live
lives live o table es = record {
  setup = record {
    dumps = dump_if (not live && has_note_on (is_part o) es) (dump_of o table);
    channels = parts_with_notes o es;
    program = o.program;
  };
  is_retuned = λ c. live && is_part o c;
  change = change_of o table;
}

-- What the events es cause, where all are those of the file, k came before, and s is what is kept in mind of each port.
abbrev pub passed : Bool → Options → Targets → List MidiEvent → (ℕ → ℕ) → ℕ → (ℕ → Told) → List MidiEvent → List MidiEvent
passed live o table all ports k s es = through_ports_from
    (λ z u n. written (live_block (lives live o table (events_on z all)) u n.event))
    (λ z u n. live_next (lives live o table (events_on z all)) u (doing n.event.what)) ports k s es

-- a source without a fault, with a table of some scale that holds throughout, on dump or live
pub record IsRoutable (scaling : Scaling) (o : Options) (table : Targets) (es : List MidiEvent) : Type 0 where
  pub route : bends_notes o.route ≡ false
  pub program : o.program ≤ 127
  pub valid : AllByRecursion IsValidEvent es
  pub in_order : AreInOrder 0 es
  pub faultless : IsFaultless o table es
  pub bounds : IsTable scaling table
  pub few_terms : AreFewTerms scaling
  -- one scale throughout
  pub one_table : (key onset : ℕ) → table key onset ≡ table key 0
