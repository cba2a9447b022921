use Rattle.mpe_laws.proofs.Standing.{Laws}
use Rattle.mpe_laws.proofs.Single.{one_sets_up, one_are_zones}
use Rattle.mpe_laws.proofs.Double.{two_sets_up, two_are_zones}
use Rattle.mpe_laws.proofs.follows.zones_are_set_up.Goals as goal

pub returns : goal.returns
returns c =
    let laws : Laws = record {
      settle = c.music_laws.ensures.settled;
      fade = c.music_laws.ensures.fade;
      zones = c.zone_entries_set_zones.ensures;
    } in
    record { one_set_up = one_sets_up laws; one = one_are_zones; two_set_up = two_sets_up laws; two = two_are_zones }
