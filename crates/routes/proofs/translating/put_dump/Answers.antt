use Rattle.std.proofs.Common.{[], ◌∷◌, ℕ, List, Bool, sym, ap, subst, ◌∙◌}
use Rattle.mt_base.specs.Midi.{view}
use Rattle.retune_model.specs.Dump.{dump_if}
use Rattle.routes.specs.Putting.{AllMayPut, put_all, sent_at}
use Rattle.routes.proofs.Puts.{none_put, if_ok}
use Rattle.routes.proofs.translating.put_dump.Goals as goal

pub put_sysex-requires : goal.put_sysex-requires
put_sysex-requires c =
    let e = view c.args.at.now in
    subst (λ (b : List ℕ). AllMayPut c.args.out.now (sent_at e (b ∷ []))) (sym c.as_slice.ensures.value)
    (subst (λ (x : Bool). AllMayPut c.args.out.now (sent_at e (dump_if x c.args.device.now.dump.items)))
    (sym c.is_dumped-dumped.ensures ∙ c.if-dumped.true) c.requires)

pub returns-then-dumped-clause-put : goal.returns-then-dumped-clause-put
returns-then-dumped-clause-put c =
    let e = view c.args.at.now in
    let same = ap (λ (b : List ℕ). put_all c.args.out.now (sent_at e (b ∷ []))) c.as_slice.ensures.value
    ∙ ap (λ (x : Bool). put_all c.args.out.now (sent_at e (dump_if x c.args.device.now.dump.items)))
    (sym c.if-dumped.true ∙ c.is_dumped-dumped.ensures) in
    if_ok _ _ c.put_sysex.result (λ h. h ∙ same) c.put_sysex.ensures.put

pub returns-else-dumped-clause-put : goal.returns-else-dumped-clause-put
returns-else-dumped-clause-put c =
    let e = view c.args.at.now in
    none_put c.args.out.now _ (ap (λ (x : Bool). sent_at e (dump_if x c.args.device.now.dump.items))
    (sym c.is_dumped-dumped.ensures ∙ c.if-dumped.false))
