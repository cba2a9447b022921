use Rattle.std.proofs.Common.{◌≡◌, ◌≤◌, ◌+◌, ◌-◌, ◌*◌, ◌++◌, length}
use Rattle.channel_model.specs.MpeOutput.{members_from, range_each, zone_setup}
use Rattle.mpe_route.specs.Zones.{zone_from}
use Rattle.mpe_route.proofs.setup.push_zone.Given as goal

abbrev pub invariant-loop-place : goal.invariant-loop-place
invariant-loop-place l = record {
  pushed : l.out.items ++ range_each l.range (members_from (zone_from l.zone) l.place (l.members - l.place))
      ≡ l.fn.out.items ++ zone_setup l.range (zone_from l.zone);
  room : length l.out.items ≤ length l.fn.out.items + (5 + 5 * l.place);
}
