use Rattle.std.proofs.Common.{◌≡◌, ◌++◌}
use Rattle.key_pitch.specs.Aims.{table_of}
use Rattle.key_report.specs.Keys.{errors_below, is_used, whole_error}
use Rattle.key_report.specs.Texts.{key_lines}
use Rattle.key_report.proofs.keys.push_keys.Given as goal

abbrev pub invariant-loop-key : goal.invariant-loop-key
invariant-loop-key l = record {
  text : l.out.items ≡ l.fn.out.items ++ key_lines (errors_below l.range (table_of l.table) (is_used l.keys) l.key);
  whole : l.whole ≡ whole_error (errors_below l.range (table_of l.table) (is_used l.keys) l.key);
}
