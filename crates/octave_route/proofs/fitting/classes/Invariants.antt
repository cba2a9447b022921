use Rattle.std.proofs.Common.{◌≡◌, ◌<◌, ℕ, pos, length}
use Rattle.std.specs.Prelude.{slice_index}
use Rattle.std.specs.List.{AllByRecursion}
use Rattle.key_pitch.specs.Aims.{table_of}
use Rattle.octave_route.specs.Messages.{IsOctaveValue}
use Rattle.octave_route.specs.Classes.{FitBelow, class_value}
use Rattle.octave_route.proofs.fitting.classes.Given as goal

abbrev pub invariant-loop-key : goal.invariant-loop-key
invariant-loop-key l = FitBelow (table_of l.table) l.used l.key

abbrev pub invariant-loop-class : goal.invariant-loop-class
invariant-loop-class l = record {
  size : length l.values ≡ 12;
  fit : FitBelow (table_of l.table) l.used 128;
  made : (class : ℕ) → class < l.class → pos (slice_index l.values class) ≡ class_value (table_of l.table) l.used class;
  range : AllByRecursion IsOctaveValue l.values;
}
