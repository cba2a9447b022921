use Rattle.std.proofs.Common.{rules, ◌≡◌, ◌∙◌, true, false, Some, None, cond, nat_eq, get_or, sym, ap, subst, arith, w32}
use Rattle.std.specs.List.{remove}
use Rattle.std.proofs.lemmas.Int.{to_z-of_z}
use Rattle.std.proofs.lemmas.Bool.{both_ways, or_right}
use Rattle.std.proofs.lemmas.Option.{slice_get_within, get_or_from_slice_get}
use Rattle.std.proofs.lemmas.List.Folds.{list_any_at}
use Rattle.retune_model.specs.Faults.{int_eq}
use Rattle.lifetimes.specs.Lists.{ListsSounding, AreInTurn, comes_before, entry_at, has_steps, is_listed, no_note}
use Rattle.lifetimes.proofs.Kept.{same_int}
use Rattle.lifetimes.proofs.InOrder.{ordered_left, any_left}
use Rattle.lifetimes.proofs.Changing.{not_listed, is_there, ended, stays}
use Rattle.lifetimes.proofs.notes.Notes.end.Goals as goal

pub returns-then-not-is_at-clause-sounding : goal.returns-then-not-is_at-clause-sounding
returns-then-not-is_at-clause-sounding c = λ at l.
    let notes = c.args.self.now in
    let xs = notes.sounding.items in
    stays notes.struck xs at c.args.key c.requires l (ap (is_listed xs) (sym c.sounding_of-note.ensures)
    ∙ not_listed xs c.sounding_of-note.result c.from-place.result notes.in_turn c.from-place.ensures.point
    (λ e. both_ways c.is_at.result c.if-not-is_at.true (c.is_at.ensures.1 e)))

pub returns-then-not-is_at-clause-told : goal.returns-then-not-is_at-clause-told
returns-then-not-is_at-clause-told c = λ at l.
    let notes = c.args.self.now in
    let xs = notes.sounding.items in
    let none = ap (is_listed xs) (sym c.sounding_of-note.ensures)
    ∙ not_listed xs c.sounding_of-note.result c.from-place.result notes.in_turn c.from-place.ensures.point
    (λ e. both_ways c.is_at.result c.if-not-is_at.true (c.is_at.ensures.1 e)) in
    sym (ap (λ b. cond b (Some (entry_at notes.struck c.args.key).steps) None) (sym (l.listed c.args.key c.requires) ∙ none))

pub remove-requires : goal.remove-requires
remove-requires c = (
  omega arith,
  slice_get_within c.args.self.now.sounding.items c.from-place.result c.sounding_of-note.result
      (c.is_at.ensures.0 c.if-not-is_at.false),
)

pub invariant_of-self : goal.invariant_of-self
invariant_of-self c = record {
  in_turn =
      (let notes = c.args.self.now in
      let within = slice_get_within notes.sounding.items c.from-place.result c.sounding_of-note.result (c.is_at.ensures.0 c.if-not-is_at.false) in
      subst AreInTurn (sym c.remove.ensures.items)
      (ordered_left no_note (λ a b. comes_before a b ≡ true) notes.sounding.items c.from-place.result within notes.in_turn));
}

pub returns-clause-sounding : goal.returns-clause-sounding
returns-clause-sounding c = λ at l.
    let notes = c.args.self.now in
    let xs = notes.sounding.items in
    let i = c.from-place.result in
    let here = c.is_at.ensures.0 c.if-not-is_at.false in
    let within = slice_get_within xs i c.sounding_of-note.result here in
    subst (λ zs. ListsSounding notes.struck zs (λ k. cond (nat_eq k c.args.key) false (at k))) (sym c.remove.ensures.items)
    (ended notes.struck xs at c.args.key c.requires l i notes.in_turn within
    (get_or_from_slice_get xs i c.sounding_of-note.result no_note here ∙ c.sounding_of-note.ensures))

pub returns-clause-told : goal.returns-clause-told
returns-clause-told c = λ at l.
    let notes = c.args.self.now in
    let xs = notes.sounding.items in
    let here = is_there xs c.sounding_of-note.result c.from-place.result (c.is_at.ensures.0 c.if-not-is_at.false) in
    ap Some (to_z-of_z w32 c.sounding_of-note.result.steps (search rules) ∙ ap (λ x. x.steps) c.sounding_of-note.ensures)
    ∙ sym (ap (λ b. cond b (Some (entry_at notes.struck c.args.key).steps) None)
    (sym (l.listed c.args.key c.requires) ∙ (ap (is_listed xs) (sym c.sounding_of-note.ensures) ∙ here)))

pub returns-clause-there : goal.returns-clause-there
returns-clause-there c =
    let xs = c.args.self.now.sounding.items in
    let i = c.from-place.result in
    let q = c.sounding_of-note.result.steps in
    let here = c.is_at.ensures.0 c.if-not-is_at.false in
    let same = to_z-of_z w32 q (search rules) in
    subst (λ z. has_steps xs z ≡ true) (sym same)
    (list_any_at (λ x. int_eq x.steps q) xs i no_note (slice_get_within xs i c.sounding_of-note.result here)
    (ap (λ x. int_eq x.steps q) (get_or_from_slice_get xs i c.sounding_of-note.result no_note here) ∙ same_int q))

pub returns-clause-pairs : goal.returns-clause-pairs
returns-clause-pairs c = λ q h.
    let xs = c.args.self.now.sounding.items in
    let i = c.from-place.result in
    let within = slice_get_within xs i c.sounding_of-note.result (c.is_at.ensures.0 c.if-not-is_at.false) in
    any_left no_note (λ x. int_eq x.steps q) xs i within
    ∙ or_right (int_eq (get_or xs i no_note).steps q) (has_steps (remove xs i) q) (ap (λ zs. has_steps zs q) (sym c.remove.ensures.items) ∙ h)
