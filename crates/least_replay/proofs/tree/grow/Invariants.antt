use Rattle.std.proofs.Common.{◌≡◌, ◌<◌, ◌≤◌, ◌+◌, length}
use Rattle.least_replay.specs.Columns.{all_columns, outside_count, IsGrowing}
use Rattle.least_replay.specs.CostView.{table_of}
use Rattle.least_replay.proofs.tree.grow.Given as goal

abbrev pub invariant-loop-r : goal.invariant-loop-r
invariant-loop-r l = record {
  columns : length l.slack ≡ l.b + 1;
  u_whole : length l.u ≡ all_columns (table_of l.costs);
  v_whole : length l.v ≡ all_columns (table_of l.costs);
  place_whole : length l.place ≡ length l.slack;
  from_whole : length l.from ≡ length l.slack;
  came_within : l.came < length l.slack;
  room : length l.rows.items + outside_count l.place ≤ length l.slack + 1;
  tree : IsGrowing (table_of l.costs) l.b l.u l.v l.row_of l.col_of l.rows.items l.place l.from l.slack;
}

abbrev pub decreases-loop-r : goal.decreases-loop-r
decreases-loop-r l = outside_count l.place
