use Rattle.std.proofs.Common.{[], ◌∷◌, ℕ, List, Bool, sym, ap, subst, ◌∙◌}
use Rattle.mt_base.specs.Midi.{view}
use Rattle.retune_model.specs.Dump.{dump_if}
use Rattle.routes.specs.Putting.{AllMayPut, put_all, sent_at}
use Rattle.routes.proofs.Puts.{none_put, if_ok}
use Rattle.octave_route.specs.Messages.{octave_bytes}
use Rattle.octave_route.proofs.translating.put_setup.Goals as goal

pub put_sysex-requires : goal.put_sysex-requires
put_sysex-requires c =
    let e = view c.args.at.now in
    subst (λ (b : List ℕ). AllMayPut c.args.out.now (sent_at e (b ∷ []))) (sym (c.as_slice.ensures.value ∙ c.message-bytes.ensures.bytes))
    (subst (λ (b : Bool). AllMayPut c.args.out.now (sent_at e (dump_if b (octave_bytes c.args.channels c.args.values.now))))
    (sym c.is_due-due.ensures ∙ c.if-due.true) c.requires.may)

pub returns-then-due-clause-put : goal.returns-then-due-clause-put
returns-then-due-clause-put c =
    let e = view c.args.at.now in
    let same = ap (λ (b : List ℕ). put_all c.args.out.now (sent_at e (b ∷ []))) (c.as_slice.ensures.value ∙ c.message-bytes.ensures.bytes)
    ∙ ap (λ (b : Bool). put_all c.args.out.now (sent_at e (dump_if b (octave_bytes c.args.channels c.args.values.now))))
    (sym c.if-due.true ∙ c.is_due-due.ensures) in
    if_ok _ _ c.put_sysex.result (λ h. h ∙ same) c.put_sysex.ensures.put

pub returns-else-due-clause-put : goal.returns-else-due-clause-put
returns-else-due-clause-put c =
    none_put c.args.out.now _ (ap (λ (b : Bool). sent_at (view c.args.at.now) (dump_if b (octave_bytes c.args.channels c.args.values.now)))
    (sym c.is_due-due.ensures ∙ c.if-due.false))
