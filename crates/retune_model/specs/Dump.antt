-- The output of the dump and live routes for a source, its table and the options (this project's own).
use Rattle.std.specs.Prelude.{◌≡◌, ℕ, zero, suc, ◌+◌, List, [], ◌∷◌, Bool, true, false, ◌&&◌, ◌||◌, filter, nat_eq, Option, Some, None, unwrap_or, ◌<◌}
use Rattle.mt_base.specs.Midi.{MidiEvent}
use Rattle.midi_model.specs.Sysex.{doing, tuning_of, is_reset, is_tuning}
use Rattle.midi_model.specs.TuningBytes.{numbered}
use Rattle.retune_model.specs.Table.{Bounds, tuning_target}
use Rattle.retune_model.specs.Options.{Options}
use Rattle.retune_model.specs.PlaysTheSame.{begins_note}
use Rattle.retune_model.specs.Faults.{Targets, is_part}
use Rattle.retune_model.specs.Ports.{events_on}
use Rattle.retune_model.specs.PortOutput.{through_ports}
use Rattle.retune_model.specs.Blocks.{written}
use Rattle.retune_model.specs.Routes.{Setup, Live, dump_block, dump_next, live_block, live_next, nothing_told}

-- whether a retuned part has a note on
abbrev pub has_note_on : (ℕ → Bool) → List MidiEvent → Bool
has_note_on part [] = false
has_note_on part (e ∷ es) = begins_note part e.what || has_note_on part es

-- so many channels from one on
abbrev pub from_up : ℕ → ℕ → List ℕ
from_up c zero = []
from_up c (suc n) = c ∷ from_up (c + 1) n

-- the retuned parts that have a note on, by channel
abbrev pub parts_with_notes : Options → List MidiEvent → List ℕ
parts_with_notes o es = filter (λ c. is_part o c && has_note_on (λ d. nat_eq d c) es) (from_up 0 16)

-- what the tuning program is told of each key: its target, or nothing where it has none
abbrev pub tuning_if : Option Bounds → Option ℕ
tuning_if (Some b) = tuning_target b
tuning_if None = None

abbrev pub tuning_at : Targets → ℕ → Option ℕ
tuning_at table key = tuning_if (table key 0)

-- what each of n keys from k on is told
abbrev pub values_from : (ℕ → Option ℕ) → ℕ → ℕ → List (Option ℕ)
values_from f k zero = []
values_from f k (suc n) = f k ∷ values_from f (k + 1) n

-- The bytes of a dump: they read as the targets of all 128 keys, and are a tuning message and no reset.
pub record IsDumpOf (program : ℕ) (f : ℕ → Option ℕ) (bytes : List ℕ) : Type 0 where
  pub reads : tuning_of bytes ≡ Some (record { program = program; keys = numbered 0 (values_from f 0 128) })
  pub tuning : is_tuning bytes ≡ true
  pub no_reset : is_reset bytes ≡ false

-- The bytes of a change of each key to its value: each reads so, and is a tuning message and no reset.
pub record AreChangesOf (program : ℕ) (value : ℕ → ℕ) (bytes : ℕ → List ℕ) : Type 0 where
  pub reads : (k : ℕ) → k < 128 → tuning_of (bytes k) ≡ Some (record { program = program; keys = (k, Some (value k)) ∷ [] })
  pub tuning : (k : ℕ) → is_tuning (bytes k) ≡ true
  pub no_reset : (k : ℕ) → is_reset (bytes k) ≡ false

-- the value of a key that is changed; a key without a target never is
abbrev pub told_value : Targets → ℕ → ℕ
told_value table key = unwrap_or (tuning_at table key) 0

-- one dump, where a retuned part has a note on; then the selection on each such part
abbrev pub dump_if : Bool → List ℕ → List (List ℕ)
dump_if true bytes = bytes ∷ []
dump_if false bytes = []

abbrev pub dump_setup : Options → List ℕ → List MidiEvent → Setup
dump_setup o bytes es = record { dumps = dump_if (has_note_on (is_part o) es) bytes; channels = parts_with_notes o es; program = o.program }

-- The output of the dump route; bytes is the dump of the table's targets. The setup of a port stands right before the first channel
-- message of the port, and right behind each reset of the port that comes later; it speaks of the parts of the port.
abbrev pub dumped : Options → List ℕ → List MidiEvent → List MidiEvent
dumped o bytes es = through_ports
    (λ z b n. written (dump_block (dump_setup o bytes (events_on z es)) b n.event))
    (λ z b n. dump_next b (doing n.event.what)) false es

-- The output of the live route; change k is the change of key k to its target. What a port's setup and changes are is by the port alone.
abbrev pub live_setup : Options → (ℕ → List ℕ) → List MidiEvent → Live
live_setup o change es = record { setup = record { dumps = []; channels = parts_with_notes o es; program = o.program }; is_retuned = is_part o; change = change }

abbrev pub told_live : Options → (ℕ → List ℕ) → List MidiEvent → List MidiEvent
told_live o change es = through_ports
    (λ z s n. written (live_block (live_setup o change (events_on z es)) s n.event))
    (λ z s n. live_next (live_setup o change (events_on z es)) s (doing n.event.what)) nothing_told es
