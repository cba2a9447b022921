use Rattle.std.proofs.Common.{◌+◌, ◌-◌, ◌++◌, List, length, sym, ap, ◌∙◌, arith, length-append, append_assoc}
use Rattle.mt_base.specs.declared.event.Msg.{Msg}
use Rattle.midi_model.specs.Bring.{registered}
use Rattle.channel_model.specs.MpeOutput.{member_at, members_from, range_each}
use Rattle.mpe_route.specs.Zones.{zone_from}
use Rattle.mpe_route.proofs.Ranges.{each_from}
use Rattle.mpe_route.proofs.setup.push_zone.Goals as goal

pub loop-place-preserved : goal.loop-place-preserved
loop-place-preserved c =
    let z = zone_from c.args.zone.now in
    let n = c.loop-place.place in
    let m = c.args.zone.now.need in
    let range = c.args.range in
    let i = c.loop-place.invariant in
    let rest = range_each range (members_from z (n + 1) (m - (n + 1))) in
    let pushed = c.push_registered-in-loop-place.ensures ∙ ap (λ d. c.loop-place.out.items ++ registered d 0 range) c.member.ensures in
    record {
      pushed = ap (λ (l : List Msg). l ++ rest) pushed ∙ append_assoc c.loop-place.out.items (registered (member_at z n) 0 range) rest
          ∙ ap (λ (l : List Msg). c.loop-place.out.items ++ l) (sym (each_from z range n m (omega (arith, c.loop-place-test.true)))) ∙ i.pushed;
      room = omega (arith, ap length pushed, length-append c.loop-place.out.items (registered (member_at z n) 0 range), i.room);
    }
