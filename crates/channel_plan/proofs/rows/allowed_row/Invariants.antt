use Rattle.std.proofs.Common.{◌≡◌, ◌≤◌, ◌++◌, ◌&&◌, ◌-◌, length}
use Rattle.std.specs.List.{filter}
use Rattle.retune_model.specs.Faults.{is_part}
use Rattle.retune_model.specs.Dump.{from_up}
use Rattle.channel_model.specs.Rows.{allowed_row}
use Rattle.lifetimes.specs.Views.{options_of}
use Rattle.channel_plan.specs.Masks.{is_allowed}
use Rattle.channel_plan.proofs.rows.allowed_row.Given as goal

abbrev pub invariant-loop-number : goal.invariant-loop-number
invariant-loop-number l = record {
  within : l.number ≤ 16;
  room : length l.row.items ≤ l.number;
  row : l.row.items ++ filter (λ c. is_allowed l.allowed c && is_part (options_of l.options) c) (from_up l.number (16 - l.number)) ≡ allowed_row (options_of l.options) (is_allowed l.allowed);
}
