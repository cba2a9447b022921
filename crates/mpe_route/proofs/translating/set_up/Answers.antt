use Rattle.std.proofs.Common.{List, sym, ap, subst, ◌∙◌}
use Rattle.mt_base.specs.declared.event.Msg.{Msg}
use Rattle.mt_base.specs.Midi.{view}
use Rattle.routes.specs.Putting.{AllMayPut, put_all, said_at, IsFront}
use Rattle.routes.proofs.Puts.{if_ok, if_err}
use Rattle.mpe_route.proofs.translating.set_up.Goals as goal

pub put_messages-requires : goal.put_messages-requires
put_messages-requires c =
    subst (λ (ms : List Msg). AllMayPut c.args.out.now (said_at (view c.args.at.now) ms)) (sym (c.as_slice.ensures.value ∙ c.setup-messages.ensures))
    c.requires.may

pub returns-clause-put : goal.returns-clause-put
returns-clause-put c =
    let same = ap (λ (ms : List Msg). put_all c.args.out.now (said_at (view c.args.at.now) ms))
    (c.as_slice.ensures.value ∙ c.setup-messages.ensures) in
    if_ok _ _ c.put_messages.result (λ h. h ∙ same) c.put_messages.ensures.put

pub returns-clause-front : goal.returns-clause-front
returns-clause-front c =
    if_err _ _ c.put_messages.result (λ h. subst (λ (ms : List Msg). IsFront c.args.out.now (said_at (view c.args.at.now) ms) c.put_messages.new.out)
    (c.as_slice.ensures.value ∙ c.setup-messages.ensures) h) c.put_messages.ensures.front
