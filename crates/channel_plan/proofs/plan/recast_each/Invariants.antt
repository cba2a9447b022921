use Rattle.std.proofs.Common.{◌≡◌, ◌≤◌, ◌-◌, take, length}
use Rattle.channel_plan.specs.Told.{recast_notes}
use Rattle.channel_plan.proofs.plan.recast_each.Given as goal

abbrev pub invariant-loop-note : goal.invariant-loop-note
invariant-loop-note l = record {
  runs : l.note ≤ length l.runs;
  notes : l.note ≤ length l.given;
  same : length l.given ≡ length l.fn.given;
  given : l.given ≡ recast_notes l.port l.used l.rows (take l.note l.runs) l.fn.given;
}

abbrev pub decreases-loop-note : goal.decreases-loop-note
decreases-loop-note l = length l.runs - l.note
