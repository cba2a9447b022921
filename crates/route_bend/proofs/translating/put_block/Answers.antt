use Rattle.std.proofs.Common.{[], ◌∷◌, Bool, sym, ap, subst, ◌∙◌, cond}
use Rattle.mt_base.specs.Midi.{view}
use Rattle.event_stream.specs.Distributed.{MayPut}
use Rattle.routes.specs.Putting.{AllMayPut, put_all, said_at}
use Rattle.routes.proofs.Puts.{may_first, if_ok, if_err, stopped, not_begun}
use Rattle.lifetimes.specs.Views.{options_of}
use Rattle.route_bend.specs.Putting.{block_events}
use Rattle.route_bend.proofs.translating.put_block.Goals as goal

pub put-requires : goal.put-requires
put-requires c =
    let e = view c.args.event.now in
    let may : MayPut c.args.out.now e = may_first c.args.out.now e []
    (subst (λ (b : Bool). AllMayPut c.args.out.now (cond b (said_at e c.args.messages.now) (e ∷ [])))
    (sym c.is_of_part-spoken.ensures ∙ c.if-spoken.false) c.requires) in
    record { valid = may.valid; exists = may.exists; «open» = may.open_still; order = may.in_order }

pub returns-else-spoken-clause-put : goal.returns-else-spoken-clause-put
unfolding put_all
returns-else-spoken-clause-put c =
    let e = view c.args.event.now in
    let same = ap (λ (b : Bool). put_all c.args.out.now (cond b (said_at e c.args.messages.now) (e ∷ [])))
    (sym c.if-spoken.false ∙ c.is_of_part-spoken.ensures) in
    if_ok _ _ c.put.result (λ h. h ∙ same) c.put.ensures.appended

pub returns-else-spoken-clause-front : goal.returns-else-spoken-clause-front
returns-else-spoken-clause-front c =
    let e = view c.args.event.now in
    let es = block_events (options_of c.args.options.now) e c.args.messages.now in
    if_err _ _ c.put.result (λ h. stopped c.args.out.now es es c.args.out.now c.put.new.self (not_begun c.args.out.now es) h) c.put.ensures.unchanged
