-- The tuning programs as the program keeps them.
use Rattle.std.specs.Prelude.{◌≡◌, ◌<◌, ℕ, ◌+◌, ◌*◌, List, Option, None, get_or}
use Rattle.midi_model.specs.Sysex.{Doing}
use Rattle.midi_model.specs.Tuning.{retuned}
use Rattle.receiver.specs.declared.tunings.Tunings.{Tunings}
use Rattle.receiver.specs.Turns.{values_by}

-- the value of a key in a program, in steps of 1/16384 semitone above key 0
abbrev pub value_in : Tunings → ℕ → ℕ → Option ℕ
value_in t p k = get_or t.values (128 * p + k) None

-- some keys of a program have new values
abbrev pub Retunes : ℕ → List (ℕ × Option ℕ) → Tunings → Tunings → Type 0
Retunes program keys old new = (p k : ℕ) → p < 128 → k < 128 → value_in new p k ≡ retuned program keys (value_in old) p k

-- what an event does to them
abbrev pub HearsBy : Doing → Tunings → Tunings → Type 0
HearsBy doing old new = (p k : ℕ) → p < 128 → k < 128 → value_in new p k ≡ values_by doing (value_in old) p k
