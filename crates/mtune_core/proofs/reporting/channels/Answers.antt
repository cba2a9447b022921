use Rattle.std.proofs.Common.{◌≡◌, ◌-◌, ◌∙◌, ap, arith}
use Rattle.retune_model.specs.Ports.{events_on}
use Rattle.mtune_core.specs.Report.{channels_from}
use Rattle.mtune_core.proofs.Channels.{next_port, no_port, mask_has}
use Rattle.mtune_core.proofs.reporting.channels.Goals as goal

pub loop-port-preserved : goal.loop-port-preserved
loop-port-preserved c =
    let inv = c.loop-port.invariant in
    let few = inv.few in
    let low = c.channels_in-count.ensures.few in
    record {
      few = omega (arith, few, low);
      left = λ o es noted. next_port o es c.loop-port.port c.loop-port.count c.channels_in-count.result _ (omega arith)
          (c.channels_in-count.ensures.count ∙ mask_has o (events_on c.loop-port.port es) c.parts.result (c.parts.ensures o es noted))
          (inv.left o es noted);
    }

pub returns : goal.returns
returns c = λ o es noted.
    let left = c.loop-port.invariant.left o es noted in
    let none : channels_from o es c.loop-port.port (256 - c.loop-port.port) ≡ 0 = ap (λ k. channels_from o es c.loop-port.port k) (omega arith)
    ∙ no_port o es c.loop-port.port in
    omega (arith, left, none)
