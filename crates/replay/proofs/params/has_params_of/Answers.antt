use Rattle.std.proofs.Common.{◌≡◌, List, [], ◌∷◌, length, refl, ap, sym, ◌∙◌, arith}
use Rattle.std.proofs.lemmas.Slice.Eq.{slice_eq-Decides}
use Rattle.receiver.specs.Params.{entries_of}
use Rattle.receiver.specs.State.{own_of, params_of}
use Rattle.receiver.specs.declared.param.Param.{Param}
use Rattle.replay.proofs.Agreed.{none_changed, pair_eq-Decides}
use Rattle.replay.proofs.params.has_params_of.Goals as goal

none_listed : (ps : List Param) → length ps ≡ 0 → ps ≡ []
none_listed [] h = refl
none_listed (p ∷ ps) h = absurd (omega (arith, h))

pub returns : goal.returns
returns c equal =
    let fixed = c.args.now.now.fixed in
    let told = slice_eq-Decides pair_eq-Decides fixed c.args.wanted.now.fixed c.eq.result c.eq.ensures in
    let same : fixed ≡ c.args.wanted.now.fixed = told.0 equal in
    let a = none_listed c.args.now.now.others.items (omega (arith, c.if-len-gt0.false, c.len.ensures.value)) in
    let b = none_listed c.args.wanted.now.others.items (omega (arith, c.if-len-gt0.false, c.len-2.ensures.value)) in
    none_changed (own_of c.args.now.now).params (own_of c.args.wanted.now).params c.well_formed-2.ensures.formed.canonical
    (ap (λ f. params_of f (entries_of c.args.now.now.others.items)) same
    ∙ ap (λ l. params_of c.args.wanted.now.fixed (entries_of l)) (a ∙ sym b))
