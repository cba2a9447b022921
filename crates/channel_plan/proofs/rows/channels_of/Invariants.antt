use Rattle.std.proofs.Common.{◌≡◌, ◌≤◌, ◌++◌, ◌-◌, length}
use Rattle.std.specs.List.{filter}
use Rattle.retune_model.specs.Dump.{from_up}
use Rattle.channel_plan.specs.Masks.{is_allowed}
use Rattle.channel_plan.proofs.rows.channels_of.Given as goal

abbrev pub invariant-loop-number : goal.invariant-loop-number
invariant-loop-number l = record {
  within : l.number ≤ 16;
  room : length l.row.items ≤ l.number;
  row : l.row.items ++ filter (is_allowed l.mask) (from_up l.number (16 - l.number)) ≡ filter (is_allowed l.mask) (from_up 0 16);
}
