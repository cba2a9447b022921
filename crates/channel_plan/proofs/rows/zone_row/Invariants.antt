use Rattle.std.proofs.Common.{◌≡◌, ◌≤◌, ◌++◌, ◌-◌, length}
use Rattle.channel_model.specs.MpeOutput.{Zone as ZoneOf, members_from}
use Rattle.channel_plan.proofs.rows.zone_row.Given as goal

abbrev pub invariant-loop-place : goal.invariant-loop-place
invariant-loop-place l = record {
  within : l.place ≤ l.members;
  room : length l.row.items ≤ l.place;
  row : (zone : ZoneOf) → zone.upper ≡ l.upper → l.row.items ++ members_from zone l.place (l.members - l.place) ≡ members_from zone 0 l.members;
}
