-- Laws of how a file is written: each is a sentence about what is written and what it spells.
use Rattle.std.specs.Prelude.{◌≡◌, ◌<◌, ◌≤◌, ◌^◌, ℕ, List, [], ◌∷◌, ◌++◌, length}
use Rattle.std.specs.List.{AllByRecursion}
use Rattle.mt_base.specs.Midi.{Timed}
use Rattle.midi_model.specs.FileText.{MidiFile}
use Rattle.midi_model.specs.Spelling.{Spells, IsQuantity}
use Rattle.midi_model.specs.Writing.{quantity_bytes, file_bytes, written, with_event, IsWritableFile}

-- a file, written, spells the file
abbrev pub WrittenIsSpelt : Type 0
WrittenIsSpelt = (file : MidiFile) → IsWritableFile file → Spells (file_bytes file) file

-- no spelling of a quantity has fewer bytes than the one that is written
abbrev pub QuantityIsShortest : Type 0
QuantityIsShortest = (bytes : List ℕ) (n : ℕ) → n < 2 ^ 28 → IsQuantity bytes n → AllByRecursion (λ (b : ℕ). b < 256) bytes
    → length (quantity_bytes n) ≤ length bytes

-- what stands for a list of events, with an event more, stands for the list with that event at its end
abbrev pub EventIsAppended : Type 0
EventIsAppended = (es : List Timed) (e : Timed) → with_event (written es) e ≡ written (es ++ e ∷ [])
