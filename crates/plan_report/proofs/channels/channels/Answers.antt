use Rattle.std.proofs.Common.{arith, sym, ap, ◌≡◌, ◌∙◌}
use Rattle.plan_report.specs.Told.{channels_below}
use Rattle.plan_report.proofs.Counted.{no_port, next_port}
use Rattle.plan_report.proofs.channels.channels.Goals as goal

pub loop-port-init : goal.loop-port-init
loop-port-init c = record { counted = sym (no_port c.args.plan.now); few = omega arith }

pub loop-port-preserved : goal.loop-port-preserved
loop-port-preserved c =
    let next = next_port c.args.plan.now c.loop-port.port in
    let counted = c.loop-port.invariant.counted in
    let here = c.port_channels-count.ensures.count in
    record { counted = omega (arith, next, counted, here); few = omega (arith, c.loop-port.invariant.few, c.port_channels-count.ensures.few) }

pub returns : goal.returns
returns c =
    let all : c.loop-port.port ≡ 256 = omega arith in
    c.loop-port.invariant.counted ∙ ap (channels_below c.args.plan.now) all
