-- From the input of a command, or its sample, to what is made of it.
use Rattle.std.proofs.Common.{◌≡◌, ◌≤◌, ◌<◌, ℕ, List, length, Result, Ok, Err, Some, None, refl, sym, subst, ap, arith}
use Rattle.std.specs.Prelude.{IfOk, IfErr, OnOk}
use Rattle.midi_model.specs.FileText.{MidiFile}
use Rattle.midi_model.specs.Spelling.{Spells}
use Rattle.midi_model.specs.FileLaws.{NeverBoth}
use Rattle.retune_model.specs.Faults.{Targets}
use Rattle.mtune_files.specs.declared.which.Which.TheVariants.{Input as Loaded}
use Rattle.mtune_files.specs.Outside.{Outside, after_load}
use Rattle.mtune_files.specs.Sample.{sample_bytes}
use Rattle.command_line.specs.Words.{Command}
use Rattle.mtune_core.specs.declared.outcome.Fault.{Fault}
use Rattle.mtune_core.specs.declared.outcome.Fault.TheVariants.{Smf, Memory}
use Rattle.mtune_core.specs.declared.made.Made.{Made}
use Rattle.mtune_core.specs.Contents.{At, ContentCause}
use Rattle.mtune_core.specs.Inputs.{IsInput, after_input, after_input_of, SampleCause, InputStops}
use Rattle.mtune_core.specs.Limits.{input_limit}
use Rattle.mtune_core.specs.Made.{MadeOf, MadeFrom}
use Rattle.mtune_core.specs.Retuned.{InputCause}

-- ---- an input that was loaded

pub made_of_loaded : (r : Result Made Fault) (o : Outside) (c : Command) (table : Targets) → c.sample ≡ None
    → IfOk r (λ made. At o c.input input_limit (λ input. MadeOf c table input made.output.items made.report.items))
    → IfOk r (λ made. MadeFrom o c table made.output.items made.report.items)
made_of_loaded (Ok made) o c table none h = (
  record {
    bytes = h.0.bytes;
    is_input = subst (λ s. IsInput o s c.input h.0.bytes) (sym none) h.0.held;
    short = h.0.short;
  },
  h.1,
)
made_of_loaded (Err e) o c table none h = tt

pub after_loaded : (r : Result Made Fault) (o now : Outside) (c : Command) → c.sample ≡ None → OnOk r (now ≡ after_load Loaded o)
    → OnOk r (now ≡ after_input c o)
after_loaded r o now c none h = subst (λ s. OnOk r (now ≡ after_input_of s o)) (sym none) h

pub loaded_stops : (r : Result Made Fault) (o now : Outside) (c : Command) (table : Targets) → c.sample ≡ None
    → IfErr r (λ e. ContentCause Loaded c.input input_limit (InputCause c table) o now e) → IfErr r (λ e. InputStops c.sample c table o now e)
loaded_stops r o now c table none h = subst (λ s. IfErr r (λ e. InputStops s c table o now e)) (sym none) h

-- ---- a sample

-- bytes that are seen are the sample
pub sample_made : (r : Result Made Fault) (c : Command) (table : Targets) (seen sample : List ℕ) → seen ≡ sample
    → IfOk r (λ made. MadeOf c table seen made.output.items made.report.items)
    → IfOk r (λ made. MadeOf c table sample made.output.items made.report.items)
sample_made r c table seen sample same h = subst (λ b. IfOk r (λ made. MadeOf c table b made.output.items made.report.items)) same h

-- they spell a file, so that they have no fault
pub sample_refused : NeverBoth → (r : Result Made Fault) (c : Command) (table : Targets) (seen sample : List ℕ) (file : MidiFile) → seen ≡ sample
    → Spells sample file
    → IfErr r (λ e. InputCause c table seen e) → IfErr r (λ e. SampleCause c table sample e)
sample_refused law (Ok made) c table seen sample file same spells h = tt
sample_refused law (Err e) c table seen sample file same spells h = pick e (subst (λ b. InputCause c table b e) same h)
  where
    pick : (e : Fault) → InputCause c table sample e → SampleCause c table sample e
    pick (Smf offset kind) g = law sample file offset kind spells g
    pick Memory g = tt
    pick fault g = g

pub sample_is_short : (r : Result Made Fault) (bytes sample : List ℕ) → bytes ≡ sample → length bytes < 4194304 → OnOk r (length sample ≤ input_limit)
sample_is_short (Ok made) bytes sample same few = let l = ap length same in omega (arith, l, few)
sample_is_short (Err e) bytes sample same few = tt

pub made_of_sample : (r : Result Made Fault) (o : Outside) (c : Command) (table : Targets) (n : ℕ) → c.sample ≡ Some n
    → OnOk r (length (sample_bytes n) ≤ input_limit)
    → IfOk r (λ made. MadeOf c table (sample_bytes n) made.output.items made.report.items)
    → IfOk r (λ made. MadeFrom o c table made.output.items made.report.items)
made_of_sample (Ok made) o c table n some short h = (
  record {
    bytes = sample_bytes n;
    is_input = subst (λ s. IsInput o s c.input (sample_bytes n)) (sym some) refl;
    short = short;
  },
  h,
)
made_of_sample (Err e) o c table n some short h = tt

pub after_sample : (r : Result Made Fault) (o : Outside) (c : Command) (n : ℕ) → c.sample ≡ Some n → OnOk r (o ≡ after_input c o)
after_sample (Ok made) o c n some = subst (λ s. o ≡ after_input_of s o) (sym some) refl
after_sample (Err e) o c n some = tt

pub sample_stops : (r : Result Made Fault) (o : Outside) (c : Command) (table : Targets) (n : ℕ) → c.sample ≡ Some n
    → IfErr r (λ e. SampleCause c table (sample_bytes n) e) → IfErr r (λ e. InputStops c.sample c table o o e)
sample_stops (Ok made) o c table n some h = tt
sample_stops (Err e) o c table n some h = subst (λ s. InputStops s c table o o e) (sym some) (refl, h)
