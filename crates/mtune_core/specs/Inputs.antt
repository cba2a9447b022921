-- The input of a command: what stands at its name, or the sample that is asked for in place of it.
use Rattle.std.specs.Prelude.{ℕ, ◌≡◌, ◌≤◌, List, Option, Some, None, length}
use Rattle.retune_model.specs.Faults.{Targets}
use Rattle.mtune_files.specs.declared.which.Which.TheVariants.{Input as Loaded}
use Rattle.mtune_files.specs.Outside.{Outside, IsHeld, after_load}
use Rattle.mtune_files.specs.Sample.{sample_bytes}
use Rattle.command_line.specs.Words.{Command}
use Rattle.mtune_core.specs.declared.outcome.Fault.{Fault}
use Rattle.mtune_core.specs.declared.outcome.Fault.TheVariants.{Smf, Memory}
use Rattle.mtune_core.specs.Contents.{ContentCause}
use Rattle.mtune_core.specs.Limits.{input_limit}
use Rattle.mtune_core.specs.Retuned.{InputCause, FileCause}

abbrev pub IsInput : Outside → Option ℕ → List ℕ → List ℕ → Type 0
IsInput o None name bytes = IsHeld o name bytes
IsInput o (Some chords) name bytes = bytes ≡ sample_bytes chords

-- bytes of the input of a command, which isn't longer than its limit
pub record Input (o : Outside) (c : Command) : Type 0 where
  pub bytes : List ℕ
  pub is_input : IsInput o c.sample c.input bytes
  pub short : length bytes ≤ input_limit

-- an input is loaded; a sample is none
abbrev pub after_input_of : Option ℕ → Outside → Outside
after_input_of None o = after_load Loaded o
after_input_of (Some chords) o = o

abbrev pub after_input : Command → Outside → Outside
after_input c o = after_input_of c.sample o

-- What is refused of a sample: not its bytes, which spell a file.
abbrev pub SampleCause : Command → Targets → List ℕ → Fault → Type 0
SampleCause c table input (Smf offset kind) = ⊥
SampleCause c table input Memory = Unit {0}
SampleCause c table input fault = FileCause c table input fault

-- The load of the input went wrong, or what was loaded is refused; or the sample is.
abbrev pub InputStops : Option ℕ → Command → Targets → Outside → Outside → Fault → Type 0
InputStops None c table before now fault = ContentCause Loaded c.input input_limit (InputCause c table) before now fault
InputStops (Some chords) c table before now fault = (now ≡ before) × SampleCause c table (sample_bytes chords) fault
