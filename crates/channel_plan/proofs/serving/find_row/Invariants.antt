use Rattle.std.proofs.Common.{length, ◌-◌, ◌≤◌, ◌≡◌, false, take}
use Rattle.std.specs.List.{AllByRecursion}
use Rattle.channel_plan.specs.Serving.{head, serves}
use Rattle.channel_plan.specs.declared.rowing.Used.{Used}
use Rattle.channel_plan.proofs.serving.find_row.Given as goal

abbrev pub invariant-loop-place : goal.invariant-loop-place
invariant-loop-place l = record {
  within : l.place ≤ length l.rows;
  none : AllByRecursion (λ (u : Used). serves (head u) l.part.port l.part.channel ≡ false) (take l.place l.rows);
}

abbrev pub decreases-loop-place : goal.decreases-loop-place
decreases-loop-place l = length l.rows - l.place
