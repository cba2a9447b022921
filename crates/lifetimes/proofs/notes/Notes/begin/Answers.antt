use Rattle.std.proofs.Common.{rules, ◌≡◌, ◌∙◌, true, ◌||◌, cond, nat_eq, length, set, sym, ap, subst, arith}
use Rattle.std.specs.List.{insert}
use Rattle.std.proofs.lemmas.Bool.{both_ways}
use Rattle.retune_model.specs.Faults.{int_eq}
use Rattle.lifetimes.specs.Lists.{ListsSounding, AreInTurn, has_steps, no_note}
use Rattle.lifetimes.proofs.InOrder.{any_inserted}
use Rattle.lifetimes.proofs.Changing.{still_in_turn, begun, sounds_there, room_left}
use Rattle.lifetimes.proofs.ListedKeys.{key_of_entry}
use Rattle.lifetimes.proofs.notes.Notes.begin.Goals.{else-not-is_at-via-then-not-is_at+else-not-is_full, else-not-is_at-via-else-not-is_at}
use Rattle.lifetimes.proofs.notes.Notes.begin.Goals as goal

pub invariant_of-self-then-not-is_full : goal.invariant_of-self-then-not-is_full
invariant_of-self-then-not-is_full c = record {
  in_turn =
      (let notes = c.args.self.now in
      subst AreInTurn (sym c.insert.ensures.items)
      (still_in_turn notes.sounding.items c.sounding_of-note.result c.from-place.result notes.in_turn c.from-place.ensures.point
      (λ e. both_ways c.is_at.result c.if-not-is_at.true (c.is_at.ensures.1 e)) c.from-place.ensures.bound));
}

pub returns-then-not-is_full-clause-sounding : goal.returns-then-not-is_full-clause-sounding
returns-then-not-is_full-clause-sounding c = λ at l none.
    let notes = c.args.self.now in
    let long : length notes.struck ≡ 128 = search rules in
    let listed =
    begun notes.struck notes.sounding.items at c.args.key c.requires l c.args.struck c.from-place.result long c.from-place.ensures.bound none in
    let then = set notes.struck c.args.key c.args.struck in
    subst (λ zs. ListsSounding then zs (λ k. cond (nat_eq k c.args.key) true (at k))) (sym c.insert.ensures.items)
    (subst (λ y. ListsSounding then (insert notes.sounding.items c.from-place.result y) (λ k. cond (nat_eq k c.args.key) true (at k)))
    (sym c.sounding_of-note.ensures) listed)

pub returns-then-not-is_full-clause-pairs : goal.returns-then-not-is_full-clause-pairs
returns-then-not-is_full-clause-pairs c = λ q h.
    let xs = c.args.self.now.sounding.items in
    ap (λ y. int_eq y.steps q || has_steps xs q) (sym c.sounding_of-note.ensures)
    ∙ (sym (any_inserted no_note (λ x. int_eq x.steps q) xs c.from-place.result c.sounding_of-note.result)
    ∙ (ap (λ zs. has_steps zs q) (sym c.insert.ensures.items) ∙ h))

pub returns-else-not-is_at-clause-sounding : goal.returns-else-not-is_at-clause-sounding
returns-else-not-is_at-clause-sounding c = λ at l none.
    let notes = c.args.self.now in
    let xs = notes.sounding.items in
    elim c.else-not-is_at.branch [
      | else-not-is_at-via-then-not-is_at+else-not-is_full w ↦ (let room = room_left notes.struck xs at c.args.key c.requires notes.in_turn l none in
          let full : length xs ≡ 128 = search (rules, w.is_full.ensures, w.if-not-is_full) in absurd (omega (arith, room, full)))
      | else-not-is_at-via-else-not-is_at w ↦ absurd (both_ways (at c.args.key) none
          (ap at (sym (key_of_entry c.args.key c.args.struck.target) ∙ ap (λ x. x.key) (sym c.sounding_of-note.ensures))
          ∙ sounds_there notes.struck xs at c.sounding_of-note.result c.from-place.result l (c.is_at.ensures.0 w.if-not-is_at.false)))
    ]
