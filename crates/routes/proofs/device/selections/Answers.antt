use Rattle.std.proofs.Common.{◌<◌, ◌≤◌, ◌+◌, ◌-◌, List, ◌++◌, length, filter, sym, ap, ◌∙◌, arith, length-append}
use Rattle.std.proofs.lemmas.List.{append_assoc, append-nil}
use Rattle.mt_base.specs.declared.event.Msg.{Msg}
use Rattle.receiver.specs.Notes.{has}
use Rattle.retune_model.specs.Dump.{from_up}
use Rattle.routes.specs.Device as spec
use Rattle.routes.proofs.Channels.{selects_from, no_selects, selection_length}
use Rattle.routes.proofs.device.selections.Goals as goal

pub loop-number-preserved : goal.loop-number-preserved
loop-number-preserved c =
    let n = c.loop-number.number in
    let mask = c.args.channels in
    let program = c.args.program in
    let low : n < 16 = omega (arith, c.loop-number-test.true) in
    let one = spec.selection_if (has mask n) n program in
    let rest = spec.selections program (filter (has mask) (from_up (n + 1) (16 - (n + 1)))) in
    let few : length one ≤ 5 = selection_length (has mask n) n program in
    record {
      pushed = ap (λ (l : List Msg). l ++ rest) c.push_selection_if.ensures ∙ append_assoc c.loop-number.out.items one rest
          ∙ ap (λ (l : List Msg). c.loop-number.out.items ++ l) (sym (selects_from program mask n low)) ∙ c.loop-number.invariant.pushed;
      room = omega (arith, ap length c.push_selection_if.ensures, length-append c.loop-number.out.items one, few, c.loop-number.invariant.room);
    }

pub returns : goal.returns
returns c =
    sym (append-nil c.loop-number.out.items)
    ∙ ap (λ (l : List Msg). c.loop-number.out.items ++ l) (sym (no_selects c.args.program c.args.channels c.loop-number.number (omega arith)))
    ∙ c.loop-number.invariant.pushed
