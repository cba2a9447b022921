use Rattle.std.proofs.Common.{refl}
use Rattle.mtune_core.proofs.table.key_table.Goals as goal

pub returns-clause-table : goal.returns-clause-table
returns-clause-table c = record {
  is_table = c.in_ok-table.ensures.table;
  one = λ key a b e. refl;
}
