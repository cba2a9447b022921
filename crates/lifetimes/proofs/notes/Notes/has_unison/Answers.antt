use Rattle.std.proofs.Common.{rules, ◌+◌, ◌∙◌, ◌||◌, sym, ap, subst, arith, w32}
use Rattle.std.specs.Prelude.{slice_get}
use Rattle.std.proofs.lemmas.Int.{to_z-of_z}
use Rattle.std.proofs.lemmas.Bool.{or_left}
use Rattle.lifetimes.specs.Lists.{IsPlaceIn, is_unison, entry_of}
use Rattle.lifetimes.proofs.Unison.{unison_told}
use Rattle.lifetimes.proofs.notes.Notes.has_unison.Goals as goal

pub overflow_add-place : goal.overflow_add-place
overflow_add-place c = let few = c.from-place.ensures.few in omega (arith, few)

pub returns-then-is_unison : goal.returns-then-is_unison
returns-then-is_unison c = λ at l.
    let notes = c.args.self.now in
    let xs = notes.sounding.items in
    let i = c.from-place.result in
    let wanted = c.sounding_of-wanted.ensures in
    let same = to_z-of_z w32 c.sounding_of-wanted.result.steps (search rules) in
    let place : IsPlaceIn xs (record (entry_of c.args.key c.args.target) { key = 0 }) i = subst (λ x. IsPlaceIn xs (record x { key = 0 }) i) wanted
    (subst (λ q. IsPlaceIn xs (record { steps = q; target = c.sounding_of-wanted.result.target; key = 0 }) i) same c.from-place.ensures.point) in
    let told = unison_told notes.struck xs at c.args.key c.args.target i l notes.in_turn place in
    c.if-is_unison.true ∙ sym (told ∙ or_left (is_unison (entry_of c.args.key c.args.target) (slice_get xs i))
    (is_unison (entry_of c.args.key c.args.target) (slice_get xs (i + 1)))
    (ap (λ x. is_unison x (slice_get xs i)) (sym wanted) ∙ (sym c.is_unison.ensures ∙ c.if-is_unison.true)))

pub returns-else-is_unison : goal.returns-else-is_unison
returns-else-is_unison c = λ at l.
    let notes = c.args.self.now in
    let xs = notes.sounding.items in
    let i = c.from-place.result in
    let wanted = c.sounding_of-wanted.ensures in
    let same = to_z-of_z w32 c.sounding_of-wanted.result.steps (search rules) in
    let place : IsPlaceIn xs (record (entry_of c.args.key c.args.target) { key = 0 }) i = subst (λ x. IsPlaceIn xs (record x { key = 0 }) i) wanted
    (subst (λ q. IsPlaceIn xs (record { steps = q; target = c.sounding_of-wanted.result.target; key = 0 }) i) same c.from-place.ensures.point) in
    let told = unison_told notes.struck xs at c.args.key c.args.target i l notes.in_turn place in
    let other = ap (λ x. is_unison x (slice_get xs i)) (sym wanted) ∙ (sym c.is_unison.ensures ∙ c.if-is_unison.false) in
    c.is_unison-else-is_unison.ensures ∙ (ap (λ x. is_unison x (slice_get xs (i + 1))) wanted
    ∙ sym (told ∙ ap (λ b. b || is_unison (entry_of c.args.key c.args.target) (slice_get xs (i + 1))) other))
