-- What is printed of a plan, by what the plan tells (this project's own).
use Rattle.std.specs.Prelude.{◌≡◌, ℕ, ◌+◌, List, [], ◌++◌, Option, Some, None, map, sum_by}
use Rattle.retune_model.specs.Pairs.{Pair}
use Rattle.retune_model.specs.Dump.{from_up}
use Rattle.lifetimes.specs.Views.{pair_of}
use Rattle.channel_plan.specs.declared.plan.Plan.{Plan}
use Rattle.channel_plan.specs.declared.plan.Zone.{Zone}
use Rattle.channel_plan.specs.Told.{ports_in, need_in, instant_in, witness_in, zone_in, zone_pairs_in}
use Rattle.plan_report.specs.Texts.{need_line, pair_lines, zone_line, port_lines}

-- ---- on bend

-- of a port: what it needs, the instant, and the pairs then
abbrev pub need_told : Plan → ℕ → List ℕ
need_told plan z = need_line (need_in plan z) (instant_in plan z) ++ pair_lines (map pair_of (witness_in plan z))

abbrev pub need_lines : Plan → List ℕ
need_lines plan = port_lines (need_told plan) (ports_in plan)

-- ---- on MPE

-- a zone, if there is one, and the pairs of its part at the instant
abbrev pub zone_lines_if : Option Zone → List Pair → List ℕ
zone_lines_if None pairs = []
zone_lines_if (Some zone) pairs = zone_line zone ++ pair_lines pairs

abbrev pub zone_told : Plan → ℕ → ℕ → List ℕ
zone_told plan z i = zone_lines_if (zone_in plan z i) (map pair_of (zone_pairs_in plan z i))

-- of a port: the lower zone, and then the upper
abbrev pub zones_told : Plan → ℕ → List ℕ
zones_told plan z = zone_told plan z 0 ++ zone_told plan z 1

abbrev pub zone_lines : Plan → List ℕ
zone_lines plan = port_lines (zones_told plan) (ports_in plan)

-- ---- on both

-- how many channels the notes of a port are given: what the port needs, and the members of its zones
abbrev pub members_if : Option Zone → ℕ
members_if None = 0
members_if (Some zone) = zone.need

abbrev pub channels_of_port : Plan → ℕ → ℕ
channels_of_port plan z = need_in plan z + members_if (zone_in plan z 0) + members_if (zone_in plan z 1)

-- on so many ports, from port 0 on
unfoldable pub channels_below : Plan → ℕ → ℕ
channels_below plan n = sum_by (channels_of_port plan) (from_up 0 n)

-- on all ports
abbrev pub channels_told : Plan → ℕ
channels_told plan = channels_below plan 256

-- ---- want of memory

-- Behind what stood there, a front of the text stands.
pub record IsFront (old text new : List ℕ) : Type 0 where
  pub front : List ℕ
  pub rest : List ℕ
  pub split : text ≡ front ++ rest
  pub put : new ≡ old ++ front
