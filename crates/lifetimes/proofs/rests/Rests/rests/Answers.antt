use Rattle.std.proofs.Common.{◌≡◌, ◌∙◌, sym, ap, refl, length, get_or, w32}
use Rattle.std.proofs.lemmas.Int.{to_z-of_z}
use Rattle.std.proofs.lemmas.List.{get_or_read_under}
use Rattle.retune_model.specs.Rests.{is_within_tail}
use Rattle.lifetimes.specs.Resting.{no_rest, steps_at}
use Rattle.lifetimes.proofs.Kept.{found, lost}
use Rattle.lifetimes.proofs.rests.Rests.rests.Goals as goal

pub returns-in-Some : goal.returns-in-Some
returns-in-Some c =
    let rests = c.args.self.now in
    let i = c.in-Some.place in
    let same = to_z-of_z w32 c.args.steps c.ranges.steps in
    let at : steps_at rests.items.items i ≡ c.args.steps = c.in-Some.ensures.at ∙ same in
    let read : c.index.result.now ≡ get_or rests.items.items i no_rest =
    get_or_read_under rests.items.items i (length rests.items.items) c.index.result.now no_rest c.index.ensures c.in-Some.ensures.some refl in
    c.is_within_tail.ensures ∙ ap (is_within_tail c.args.tail c.args.tick) (ap (λ x. x.end) read ∙ sym (found rests.items.items c.args.steps i rests.rising c.in-Some.ensures.some at))

pub returns-in-None : goal.returns-in-None
returns-in-None c =
    let rests = c.args.self.now in
    let same = to_z-of_z w32 c.args.steps c.ranges.steps in
    ap (is_within_tail c.args.tail c.args.tick) (sym (lost rests.items.items c.args.steps (λ k within e. c.in-None.ensures.none k within (e ∙ sym same))))
