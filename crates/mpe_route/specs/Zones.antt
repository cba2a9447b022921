-- The zones of a port, as the program has them in its plan.
use Rattle.std.specs.Prelude.{◌≤◌, ◌+◌, ℕ, List, [], ◌∷◌, Option, Some, None}
use Rattle.channel_model.specs.MpeOutput.{Zone}
use Rattle.channel_plan.specs.Told.{zone_in}
use Rattle.channel_plan.specs.declared.plan.Plan.{Plan}
use Rattle.channel_plan.specs.declared.plan.Zone.{Zone as Planned}

abbrev pub zone_from : Planned → Zone
zone_from zone = record { part = zone.part; upper = zone.upper; members = zone.need }

-- the lower one first
abbrev pub upper_from : Option Planned → List Zone
upper_from (Some upper) = zone_from upper ∷ []
upper_from None = []

abbrev pub zones_from : Option Planned → Option Planned → List Zone
zones_from (Some lower) upper = zone_from lower ∷ upper_from upper
zones_from None upper = []

abbrev pub zones_in : Plan → ℕ → List Zone
zones_in plan z = zones_from (zone_in plan z 0) (zone_in plan z 1)

-- so few members that all have channels, and what sets them is short
abbrev pub AreSmall : List Zone → Type 0
AreSmall [] = Unit {0}
AreSmall (l ∷ []) = l.members ≤ 15
AreSmall (l ∷ u ∷ _) = l.members + u.members ≤ 14
