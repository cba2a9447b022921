-- What the program's values stand for.
use Rattle.std.specs.Prelude.{◌≡◌, ℕ, List, Result, Ok, Err}
use Rattle.midi_model.specs.declared.fault.SmfKind.{SmfKind}
use Rattle.midi_model.specs.declared.fault.Stop.{Stop}
use Rattle.smf_read.specs.declared.fault.Halt.{Halt}
use Rattle.smf_read.specs.declared.fault.Halt.TheVariants as halts
use Rattle.smf_read.specs.declared.fault.SmfFault.{SmfFault}
use Rattle.smf_read.specs.declared.fault.SmfFault.TheVariants as faults
use Rattle.midi_model.specs.Faults.{FirstFault}
use Rattle.midi_model.specs.FileText.{MidiFile}

-- What a reader inside gave, unless memory ran out, is what reading on lists gives.
abbrev pub Halts : {Y : Type 0} → Halt → Result Y Stop → Type 0
Halts halts.Memory read = Unit {0}
Halts (halts.At e) read = read ≡ Err e

abbrev pub Finds : {X Y : Type 0} → (X → Y) → Result X Halt → Result Y Stop → Type 0
Finds view (Ok x) read = read ≡ Ok (view x)
Finds view (Err e) read = Halts e read

-- The same of the file, with offsets.
abbrev pub Reads : Result MidiFile SmfFault → Result MidiFile (ℕ × SmfKind) → Type 0
Reads (Ok f) read = read ≡ Ok f
Reads (Err faults.Memory) read = Unit {0}
Reads (Err (faults.At offset kind)) read = read ≡ Err (offset, kind)

-- Where it isn't want of memory, a fault is the first of these bytes.
abbrev pub IsFirst : List ℕ → SmfFault → Type 0
IsFirst bytes faults.Memory = Unit {0}
IsFirst bytes (faults.At offset kind) = FirstFault bytes offset kind
