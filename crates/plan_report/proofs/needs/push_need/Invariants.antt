use Rattle.std.proofs.Common.{◌≡◌, ◌++◌, take}
use Rattle.std.specs.Prelude.{flat_map}
use Rattle.plan_report.specs.Texts.{port_line}
use Rattle.plan_report.specs.Told.{need_told}
use Rattle.plan_report.proofs.needs.push_need.Given as goal

abbrev pub invariant-loop-port : goal.invariant-loop-port
invariant-loop-port l = l.out.items ≡ l.fn.out.items ++ flat_map (λ z. port_line z ++ need_told l.plan z) (take l.port-index l.port-items)
