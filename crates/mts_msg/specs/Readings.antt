use Rattle.std.specs.Prelude.{ℕ, ◌≤◌, ◌≡◌, List, [], ◌∷◌, Bool, true, false, Option, Some, length}
use Rattle.std.specs.List.{AllByRecursion}
use Rattle.midi_model.specs.Sysex.{Retune, tuning_of, is_reset}
use Rattle.midi_model.specs.TuningBytes.{IsTuningValue, numbered, dump_bytes, change_bytes}
use Rattle.mts_msg.specs.declared.reading.Tuning.{Tuning}
use Rattle.mts_msg.specs.declared.reading.Tuning.TheVariants.{Dump, Changes}

-- what was read, as a receiver takes it: the program, and the keys with their values
abbrev pub retune_of : Tuning → Retune
retune_of (Dump program values) = record { program = program; keys = numbered 0 values }
retune_of (Changes program list) = record { program = program; keys = list.items }

-- whether it has a value for each key
abbrev pub is_table : Tuning → Bool
is_table (Dump program values) = true
is_table (Changes program list) = false

-- programs and keys are at most 127, and values are what three bytes can say
pub record IsInRange (r : Retune) : Type 0 where
  pub program : r.program ≤ 127
  pub keys : AllByRecursion (λ x. (x.0 ≤ 127) × IsTuningValue x.1) r.keys

-- what is written as a dump is read as that dump, whatever its program and its 128 values
abbrev pub DumpsAreReadAgain : Type 0
DumpsAreReadAgain = (program : ℕ) (values : List (Option ℕ)) → program ≤ 127 → length values ≡ 128 → AllByRecursion IsTuningValue values
    → tuning_of (dump_bytes program values) ≡ Some (record { program = program; keys = numbered 0 values })

-- and a change of one key as that change
abbrev pub ChangesAreReadAgain : Type 0
ChangesAreReadAgain = (program key value : ℕ) → program ≤ 127 → key ≤ 127 → value ≤ 2097150
    → tuning_of (change_bytes program key value) ≡ Some (record { program = program; keys = (key, Some value) ∷ [] })

-- what is written is never a reset
abbrev pub NothingWrittenResets : Type 0
NothingWrittenResets = ((program : ℕ) (values : List (Option ℕ)) → is_reset (dump_bytes program values) ≡ false)
    × ((program key value : ℕ) → is_reset (change_bytes program key value) ≡ false)

-- where the bytes are those of some dump, that dump was read
abbrev pub ReadsDumps : List ℕ → Option Tuning → Type 0
ReadsDumps bytes result = (program : ℕ) (values : List (Option ℕ)) → program ≤ 127 → length values ≡ 128 → AllByRecursion IsTuningValue values
    → bytes ≡ dump_bytes program values → result ≡ Some (Dump program values)
