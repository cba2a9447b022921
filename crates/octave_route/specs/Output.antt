-- The output of the octave route (this project's own; the messages are those of the MIDI Tuning Standard).
use Rattle.std.specs.Prelude.{◌≡◌, ℕ, suc, List, [], Bool, true, false, ◌&&◌, nat_eq, length}
use Rattle.std.specs.List.{AllByRecursion}
use Rattle.mt_base.specs.declared.event.Msg.TheVariants.{NoteOn}
use Rattle.mt_base.specs.Midi.{MidiWhat, Says, MidiEvent}
use Rattle.mt_base.specs.Valid.{IsValidEvent}
use Rattle.midi_model.specs.Order.{AreInOrder}
use Rattle.midi_model.specs.Sysex.{doing}
use Rattle.retune_model.specs.Table.{Scaling, IsTable, AreFewTerms}
use Rattle.retune_model.specs.Options.{Options, ByDump}
use Rattle.retune_model.specs.Faults.{Targets, is_part}
use Rattle.retune_model.specs.SourceFaults.{IsFaultless}
use Rattle.retune_model.specs.Ports.{events_on}
use Rattle.retune_model.specs.PortOutput.{through_ports}
use Rattle.retune_model.specs.Blocks.{written}
use Rattle.retune_model.specs.Routes.{Setup, dump_block, dump_next}
use Rattle.retune_model.specs.Dump.{has_note_on, dump_if}
use Rattle.octave_route.specs.Messages.{IsOctaveValue, as_number, octave_bytes}
use Rattle.octave_route.specs.Classes.{is_used, FitBelow, AreClassValues}

-- the retuned parts that have a note on, as a number with a bit for each channel
abbrev pub is_tuned : Options → List MidiEvent → ℕ → Bool
is_tuned o es c = is_part o c && has_note_on (λ d. nat_eq d c) es

abbrev pub parts_number : Options → List MidiEvent → ℕ
parts_number o es = as_number 16 (is_tuned o es)

-- one message for them, where there is one; no program is selected
abbrev pub octave_setup : Options → List ℕ → List MidiEvent → Setup
octave_setup o values es = record {
  dumps = dump_if (has_note_on (is_part o) es) (octave_bytes (parts_number o es) values);
  channels = [];
  program =
      0;
}

-- The output for the values of the twelve classes. As on dump, the setup of a port stands right before the first channel message of the
-- port, and right behind each reset of the port that comes later; it speaks of the parts of the port.
abbrev pub octaved : Options → List ℕ → List MidiEvent → List MidiEvent
octaved o values es = through_ports
    (λ z b n. written (dump_block (octave_setup o values (events_on z es)) b n.event))
    (λ z b n. dump_next b (doing n.event.what)) false es

-- ---- sources that the route takes

-- whether an event begins a note of a key on such a channel
abbrev pub begins_key : (ℕ → Bool) → ℕ → MidiWhat → Bool
begins_key part key (Says (NoteOn c k (suc v))) = part c && nat_eq k key
begins_key part key _ = false

-- each key of which a retuned part begins a note, on any port, is in a set
abbrev pub AreUsed : Options → ℕ → List MidiEvent → Type 0
AreUsed o used es = AllByRecursion (λ e. (key : ℕ) → begins_key (is_part o) key e.what ≡ true → is_used used key ≡ true) es

-- A source without a fault on dump, with a table of some scale that holds throughout, and the values of the classes for its keys, which all
-- fit their classes.
pub record IsOctavable (scaling : Scaling) (o : Options) (table : Targets) (used : ℕ) (values : List ℕ) (es : List MidiEvent) : Type 0 where
  pub route : o.route ≡ ByDump
  pub valid : AllByRecursion IsValidEvent es
  pub in_order : AreInOrder 0 es
  pub faultless : IsFaultless o table es
  pub bounds : IsTable scaling table
  pub few_terms : AreFewTerms scaling
  -- one scale throughout
  pub one_table : (key onset : ℕ) → table key onset ≡ table key 0
  pub keys : AreUsed o used es
  pub twelve : length values ≡ 12
  pub range : AllByRecursion IsOctaveValue values
  pub classes : AreClassValues (λ key. table key 0) used values
  pub fit : FitBelow (λ key. table key 0) used 128
