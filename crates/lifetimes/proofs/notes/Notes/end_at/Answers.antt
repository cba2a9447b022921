use Rattle.std.proofs.Common.{rules, Bool, ◌≡◌, ◌<◌, ◌∙◌, ℤ, true, cond, Option, Some, None, sym, ap, subst, arith, w32, to_z, of_z}
use Rattle.retune_model.specs.Faults.{int_eq}
use Rattle.lifetimes.specs.Lists.{entry_at, has_steps}
use Rattle.lifetimes.specs.Resting.{IsAdmitted, end_kept}
use Rattle.lifetimes.proofs.Placed.{admitted_of, each_placed}
use Rattle.lifetimes.proofs.PartEnding.{one_ends}
use Rattle.lifetimes.proofs.notes.Notes.end_at.Goals as goal

some_is : (o : Option ℤ) (b : Bool) (s e : ℤ) → o ≡ Some s → o ≡ cond b (Some e) None → b ≡ true → s ≡ e
some_is o b s e here is there = (let same : Some s ≡ Some e = sym here ∙ (is ∙ ap (λ x. cond x (Some e) None) there) in cc)

no_end : {X : Type 0} (o : Option ℤ) (b : Bool) (s : ℤ) → o ≡ None → o ≡ cond b (Some s) None → b ≡ true → X
no_end o b s none is there = (let wrong : None ≡ Some s = sym none ∙ (is ∙ ap (λ x. cond x (Some s) None) there) in absurd cc)

pub returns-in_default : goal.returns-in_default
returns-in_default c =
    let old = c.args.self.now in
    let new = c.end.new.self in
    one_ends old new c.args.key c.args.tick c.args.tail c.requires.key c.end.ensures.struck c.end.ensures.sounding c.end.ensures.pairs
    (λ at l there some q. no_end c.end.result (at c.args.key) (entry_at old.struck c.args.key).steps c.in_default.is (c.end.ensures.told at l) there)
    (λ no q. ap (λ rs. end_kept rs q) c.end.ensures.rests)
    (λ q. subst (λ rs. IsAdmitted rs q) (sym c.end.ensures.rests))

pub returns-then-tail-eq0 : goal.returns-then-tail-eq0
returns-then-tail-eq0 c =
    let old = c.args.self.now in
    let new = c.end.new.self in
    one_ends old new c.args.key c.args.tick c.args.tail c.requires.key c.end.ensures.struck c.end.ensures.sounding c.end.ensures.pairs
    (λ at l there some. absurd (omega (arith, some, c.if-tail-eq0.true)))
    (λ no q. ap (λ rs. end_kept rs q) c.end.ensures.rests)
    (λ q. subst (λ rs. IsAdmitted rs q) (sym c.end.ensures.rests))

pub end-requires-2 : goal.end-requires-2
end-requires-2 c =
    let old = c.args.self.now in
    let some : 0 < c.args.tail = omega (arith, c.if-tail-eq0.false) in
    let same : to_z w32 (of_z w32 c.in-Some.steps) ≡ c.in-Some.steps = search rules in
    let listed : has_steps old.sounding.items c.in-Some.steps ≡ true = c.in-Some.ensures.there in
    subst (IsAdmitted c.end.new.self.rests.items.items) (sym same) (subst (λ rs. IsAdmitted rs c.in-Some.steps) (sym c.end.ensures.rests)
    (admitted_of old.rests.items.items c.in-Some.steps
    (each_placed old.rests.items.items old.sounding.items (c.requires.kept some) c.in-Some.steps listed)))

pub returns : goal.returns
returns c =
    let old = c.args.self.now in
    let same : to_z w32 (of_z w32 c.in-Some.steps) ≡ c.in-Some.steps = search rules in
    one_ends old _ c.args.key c.args.tick c.args.tail c.requires.key c.end.ensures.struck c.end.ensures.sounding c.end.ensures.pairs
    (λ at l there some q.
    (let is : c.in-Some.steps ≡ (entry_at old.struck c.args.key).steps = some_is c.end.result (at c.args.key) c.in-Some.steps
    (entry_at old.struck c.args.key).steps c.in-Some.is (c.end.ensures.told at l) there in
    c.end-2.ensures.ends q
    ∙ ap (λ z. cond (int_eq z q) (Some c.args.tick) (end_kept c.end.new.self.rests.items.items q)) (same ∙ is)
    ∙ ap (λ rs. cond (int_eq (entry_at old.struck c.args.key).steps q) (Some c.args.tick) (end_kept rs q)) c.end.ensures.rests))
    (λ no. absurd (c.if-tail-eq0.false no))
    (λ q a. c.end-2.ensures.admitted q (subst (λ rs. IsAdmitted rs q) (sym c.end.ensures.rests) a))
