use Rattle.std.proofs.Common.{◌≡◌, ◌++◌, take}
use Rattle.std.specs.Prelude.{flat_map}
use Rattle.plan_report.specs.Texts.{port_line}
use Rattle.plan_report.specs.Told.{zones_told}
use Rattle.plan_report.proofs.zones.push_zones.Given as goal

abbrev pub invariant-loop-port : goal.invariant-loop-port
invariant-loop-port l = l.out.items ≡ l.fn.out.items ++ flat_map (λ z. port_line z ++ zones_told l.plan z) (take l.port-index l.port-items)
