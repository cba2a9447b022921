use Rattle.std.proofs.Common.{◌≡◌, ◌<◌, ◌∙◌, Some, cond, refl, sym, ap, subst, length, set, get_or, w32}
use Rattle.std.proofs.lemmas.Int.{to_z-of_z}
use Rattle.std.proofs.lemmas.List.{get_or_read_under, length-set}
use Rattle.retune_model.specs.Faults.{int_eq}
use Rattle.lifetimes.specs.Resting.{no_rest, steps_at, end_kept}
use Rattle.lifetimes.proofs.Kept.{same_steps, set_end}
use Rattle.lifetimes.proofs.rests.Rests.end.Goals as goal

pub returns-in-Some-clause-ends : goal.returns-in-Some-clause-ends
returns-in-Some-clause-ends c = λ q.
    let xs = c.args.self.now.items.items in
    let i = c.in-Some.place in
    let within = c.in-Some.ensures.some in
    let at : steps_at xs i ≡ c.args.steps = c.in-Some.ensures.at ∙ to_z-of_z w32 c.args.steps c.ranges.steps in
    let read : c.index_mut.result.now ≡ get_or xs i no_rest = get_or_read_under xs i (length xs) c.index_mut.result.now no_rest c.index_mut.ensures.value within refl in
    ap (λ x. end_kept (set xs i (record x { end = Some c.args.tick })) q) read
    ∙ (set_end xs i c.args.tick q within c.args.self.now.rising ∙ ap (λ z. cond (int_eq z q) (Some c.args.tick) (end_kept xs q)) at)

pub returns-in-Some-clause-admitted : goal.returns-in-Some-clause-admitted
returns-in-Some-clause-admitted c = λ q a.
    let xs = c.args.self.now.items.items in
    let i = c.in-Some.place in
    let within = c.in-Some.ensures.some in
    let read : c.index_mut.result.now ≡ get_or xs i no_rest = get_or_read_under xs i (length xs) c.index_mut.result.now no_rest c.index_mut.ensures.value within refl in (
      a.0,
      subst (λ n. a.0 < n) (sym (length-set xs i (record c.index_mut.result.now { end = Some c.args.tick }))) a.1,
      ap (λ x. steps_at (set xs i (record x { end = Some c.args.tick })) a.0) read ∙ (same_steps xs i c.args.tick a.0 within ∙ a.2),
    )
