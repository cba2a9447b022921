use Rattle.std.proofs.Common.{◌≡◌, length}
use Rattle.least_replay.specs.Columns.{all_columns, IsPaired}
use Rattle.least_replay.specs.CostView.{table_of}
use Rattle.least_replay.proofs.solver.take_in.Given as goal

abbrev pub invariant-loop-b : goal.invariant-loop-b
invariant-loop-b l = record {
  u_whole : length l.u ≡ all_columns (table_of l.costs);
  v_whole : length l.v ≡ all_columns (table_of l.costs);
  rows_whole : length l.row_of ≡ all_columns (table_of l.costs);
  columns_whole : length l.col_of ≡ all_columns (table_of l.costs);
  paired : IsPaired (table_of l.costs) l.b l.u l.v l.row_of l.col_of;
}
