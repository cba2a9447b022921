-- What the reader answers, by what the bytes spell, with the laws that `file_laws` states.
use Rattle.std.proofs.Common.{ℕ, List, Result, Ok, Err, subst}
use Rattle.std.specs.Prelude.{IfOk, IfErr}
use Rattle.smf_read.specs.declared.fault.SmfFault.{SmfFault}
use Rattle.smf_read.specs.Files.{Reads, IsFirst}
use Rattle.midi_model.specs.FileLaws.{ReadIsSpelt, SpeltIsRead, ReadFaultIsFirst}
use Rattle.midi_model.specs.FileText.{MidiFile, file_at}
use Rattle.midi_model.specs.Spelling.{Spells}
use Rattle.smf_read.specs.declared.fault.SmfFault.TheVariants as faults

-- what the program answered
pub is_found : ReadIsSpelt → (result : Result MidiFile SmfFault) (bytes : List ℕ) → Reads result (file_at bytes) → IfOk result (λ f. Spells bytes f)
is_found law (Ok f) bytes reads = law bytes f reads
is_found law (Err e) bytes reads = tt

pub is_only : SpeltIsRead → (result : Result MidiFile SmfFault) (bytes : List ℕ) → Reads result (file_at bytes) → (file : MidiFile) → Spells bytes file → Reads result (Ok file)
is_only law result bytes reads file is = subst (Reads result) (law bytes file is) reads

pub is_first : ReadFaultIsFirst → (result : Result MidiFile SmfFault) (bytes : List ℕ) → Reads result (file_at bytes) → IfErr result (λ e. IsFirst bytes e)
is_first law (Ok f) bytes reads = tt
is_first law (Err faults.Memory) bytes reads = tt
is_first law (Err (faults.At offset kind)) bytes reads = law bytes offset kind reads
