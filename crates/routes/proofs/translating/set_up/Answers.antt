use Rattle.std.proofs.Common.{true, ◌++◌, List, sym, ap, subst, ◌∙◌}
use Rattle.mt_base.specs.declared.event.Msg.{Msg}
use Rattle.mt_base.specs.Midi.{view}
use Rattle.routes.specs.Putting.{AllMayPut, put_all, said_at, sent_at, IsFront}
use Rattle.routes.specs.Device as spec
use Rattle.routes.proofs.Puts.{not_begun, more_put, may_still, may_front, last_put, last_front, stopped, if_ok, if_err, on_err}
use Rattle.routes.proofs.translating.set_up.Goals as goal

pub put_dump-requires : goal.put_dump-requires
put_dump-requires c =
    may_front c.args.out.now (sent_at (view c.args.at.now) (spec.dumps_of c.args.device.now c.args.channels))
    (said_at (view c.args.at.now) (spec.selections c.args.device.now.program (spec.channels_in c.args.channels)))
    c.requires.may

pub returns-in_err-put_dump-clause-front : goal.returns-in_err-put_dump-clause-front
returns-in_err-put_dump-clause-front c =
    let whole = spec.setup_if true c.args.device.now c.args.channels (view c.args.at.now) in
    on_err _ c.from_residual.result (stopped c.args.out.now whole whole c.args.out.now c.put_dump.new.out
    (not_begun c.args.out.now whole) c.in_err-put_dump.ensures.unchanged)

pub put_messages-requires : goal.put_messages-requires
put_messages-requires c =
    let e = view c.args.at.now in
    let dumps = sent_at e (spec.dumps_of c.args.device.now c.args.channels) in
    let selections = said_at e (spec.selections c.args.device.now.program (spec.channels_in c.args.channels)) in
    let begun = more_put c.args.out.now (dumps ++ selections) dumps selections c.args.out.now c.put_dump.new.out
    (not_begun c.args.out.now (dumps ++ selections)) c.in_ok-put_dump.ensures.put in
    subst (λ (ms : List Msg). AllMayPut c.put_dump.new.out (said_at e ms)) (sym (c.as_slice.ensures.value ∙ c.selections-messages.ensures))
    (may_still c.args.out.now (dumps ++ selections) selections c.put_dump.new.out c.requires.may begun)

pub returns-clause-put : goal.returns-clause-put
returns-clause-put c =
    let e = view c.args.at.now in
    let dumps = sent_at e (spec.dumps_of c.args.device.now c.args.channels) in
    let selections = said_at e (spec.selections c.args.device.now.program (spec.channels_in c.args.channels)) in
    let begun = more_put c.args.out.now (dumps ++ selections) dumps selections c.args.out.now c.put_dump.new.out
    (not_begun c.args.out.now (dumps ++ selections)) c.in_ok-put_dump.ensures.put in
    let same = ap (λ (ms : List Msg). put_all c.put_dump.new.out (said_at e ms)) (c.as_slice.ensures.value ∙ c.selections-messages.ensures) in
    (if_ok _ _ c.put_messages.result (λ h. last_put c.args.out.now
    (dumps ++ selections) selections c.put_dump.new.out c.put_messages.new.out begun (h ∙ same)) c.put_messages.ensures.put)

pub returns-clause-front : goal.returns-clause-front
returns-clause-front c =
    let e = view c.args.at.now in
    let dumps = sent_at e (spec.dumps_of c.args.device.now c.args.channels) in
    let selections = said_at e (spec.selections c.args.device.now.program (spec.channels_in c.args.channels)) in
    let begun = more_put c.args.out.now (dumps ++ selections) dumps selections c.args.out.now c.put_dump.new.out
    (not_begun c.args.out.now (dumps ++ selections)) c.in_ok-put_dump.ensures.put in
    let is = c.as_slice.ensures.value ∙ c.selections-messages.ensures in
    (if_err _ _ c.put_messages.result (λ h. last_front c.args.out.now
    (dumps ++ selections) selections c.put_dump.new.out c.put_messages.new.out begun
    (subst (λ (ms : List Msg). IsFront c.put_dump.new.out (said_at e ms) c.put_messages.new.out) is h)) c.put_messages.ensures.front)
