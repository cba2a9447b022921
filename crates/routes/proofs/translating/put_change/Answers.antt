use Rattle.std.proofs.Common.{◌≡◌, [], ◌∷◌, ℕ, List, Option, sym, ap, subst, ◌∙◌}
use Rattle.mt_base.specs.Midi.{view}
use Rattle.midi_model.specs.TuningBytes.{change_bytes}
use Rattle.routes.specs.Putting.{AllMayPut, put_all, sent_at}
use Rattle.routes.specs.Device.{changes_in}
use Rattle.routes.proofs.Puts.{none_put, if_ok}
use Rattle.routes.proofs.translating.put_change.Goals as goal

pub put_sysex-requires : goal.put_sysex-requires
put_sysex-requires c =
    let e = view c.args.at.now in
    let bytes : c.as_slice.result.now ≡ change_bytes c.args.program c.in-Some.told.0 c.in-Some.told.1 = c.as_slice.ensures.value
    ∙ c.note_change-change.ensures.bytes in
    subst (λ (b : List ℕ). AllMayPut c.args.out.now (sent_at e (b ∷ []))) (sym bytes)
    (subst (λ (d : Option (ℕ × ℕ)). AllMayPut c.args.out.now (sent_at e (changes_in c.args.program d))) c.in-Some.is c.requires.may)

pub returns-in-Some-clause-put : goal.returns-in-Some-clause-put
returns-in-Some-clause-put c =
    let e = view c.args.at.now in
    let bytes : c.as_slice.result.now ≡ change_bytes c.args.program c.in-Some.told.0 c.in-Some.told.1 = c.as_slice.ensures.value
    ∙ c.note_change-change.ensures.bytes in
    let same = ap (λ (b : List ℕ). put_all c.args.out.now (sent_at e (b ∷ []))) bytes
    ∙ ap (λ (d : Option (ℕ × ℕ)). put_all c.args.out.now (sent_at e (changes_in c.args.program d))) (sym c.in-Some.is) in
    if_ok _ _ c.put_sysex.result (λ h. h ∙ same) c.put_sysex.ensures.put

pub returns-in-None-clause-put : goal.returns-in-None-clause-put
returns-in-None-clause-put c =
    none_put c.args.out.now (sent_at (view c.args.at.now) (changes_in c.args.program c.args.due))
    (ap (λ (d : Option (ℕ × ℕ)). sent_at (view c.args.at.now) (changes_in c.args.program d)) c.in-None.is)
