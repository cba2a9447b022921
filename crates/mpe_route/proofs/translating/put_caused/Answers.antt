use Rattle.std.proofs.Common.{[], ◌∷◌, sym, ap, subst, ◌∙◌}
use Rattle.std.specs.Prelude.{option_map}
use Rattle.mt_base.specs.Midi.{view}
use Rattle.routes.specs.Putting.{AllMayPut, put_all, IsFront}
use Rattle.routes.proofs.Puts.{not_begun, may_first, stopped, if_ok, if_err}
use Rattle.mpe_route.specs.Putting.{passed}
use Rattle.mpe_route.proofs.translating.put_caused.Goals as goal

pub put-requires : goal.put-requires
put-requires c =
    let e = view c.args.event.now in
    let may = may_first c.args.out.now e []
    (subst (λ x. AllMayPut c.args.out.now (passed (option_map (λ a. a.items) x) e)) c.in-None.is c.requires) in
    record { valid = may.valid; exists = may.exists; «open» = may.open_still; order = may.in_order }

pub returns-in-None-clause-put : goal.returns-in-None-clause-put
unfolding put_all
returns-in-None-clause-put c =
    let e = view c.args.event.now in
    if_ok _ _ c.put.result (λ h. h ∙ ap (λ x. put_all c.args.out.now (passed (option_map (λ a. a.items) x) e)) (sym c.in-None.is))
    c.put.ensures.appended

pub returns-in-None-clause-front : goal.returns-in-None-clause-front
returns-in-None-clause-front c =
    let e = view c.args.event.now in
    if_err _ _ c.put.result (λ h. subst (λ x. IsFront c.args.out.now (passed (option_map (λ a. a.items) x) e) c.put.new.self) (sym c.in-None.is)
    (stopped c.args.out.now (e ∷ []) (e ∷ []) c.args.out.now c.put.new.self (not_begun c.args.out.now (e ∷ [])) h)) c.put.ensures.unchanged
