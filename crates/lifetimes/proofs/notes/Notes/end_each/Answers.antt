use Rattle.std.proofs.Common.{rules, ◌≡◌, ◌∙◌, Bool, true, false, not, ◌&&◌, ◌||◌, if◌then◌else◌, nat_eq, refl, sym, ap, arith}
use Rattle.std.specs.Int.{trailing_zeros, w128}
use Rattle.std.proofs.lemmas.Bool.{eqb-true}
use Rattle.receiver.specs.Notes.{has}
use Rattle.receiver.proofs.Bits.{has_cleared, has_none, lowest_is_below, has_lowest, less_without_lowest}
use Rattle.lifetimes.proofs.PartEnding.{none_ends, same_end, both_end}
use Rattle.lifetimes.proofs.notes.Notes.end_each.Goals as goal

none_left : (b : Bool) → (b && not b) ≡ false
none_left true = refl
none_left false = refl

and_true : (b : Bool) → (b && true) ≡ b
and_true true = refl
and_true false = refl

and_false : (b : Bool) → (b && false) ≡ false
and_false true = refl
and_false false = refl

-- a key more is done, one fewer is left
one_less : (all left this : Bool) → (this ≡ true → all ≡ true) → ((all && not left) || this) ≡ (all && not (if this then false else left))
one_less true true true h = refl
one_less true false true h = refl
one_less false left true h = absurd (let no : false ≡ true = h refl in cc)
one_less true true false h = refl
one_less true false false h = refl
one_less false left false h = refl

still_left : (this left : Bool) → (if this then false else left) ≡ true → left ≡ true
still_left true left e = absurd cc
still_left false left e = e

pub loop-rest-init : goal.loop-rest-init
loop-rest-init c = record {
  fits = search rules;
  within = λ k low e. e;
  ended = none_ends _ c.args.tick c.args.tail c.args.self.now (λ k low. none_left (has c.args.keys k));
}

pub loop-rest-smaller : goal.loop-rest-smaller
loop-rest-smaller c = less_without_lowest c.loop-rest.rest c.loop-rest-test.true c.loop-rest.invariant.fits

pub loop-rest-preserved : goal.loop-rest-preserved
loop-rest-preserved c =
    let keys = c.args.keys in
    let rest = c.loop-rest.rest in
    let i = c.loop-rest.invariant in
    let some = c.loop-rest-test.true in
    let key = trailing_zeros w128 rest in
    let less = less_without_lowest rest some i.fits in
    let here : has rest key ≡ true = has_lowest rest some i.fits in
    record {
      fits = omega (arith, less, i.fits);
      within = λ k low e. i.within k low
          (still_left (nat_eq k key) (has rest k) (sym (has_cleared rest key k (lowest_is_below rest some i.fits) low) ∙ e));
      ended = same_end false _ _ c.args.tick c.args.tail c.args.self.now c.end_at.new.self
          (λ k low. one_less (has keys k) (has rest k) (nat_eq k key)
          (λ e. ap (has keys) (eqb-true k key e) ∙ i.within key (lowest_is_below rest some i.fits) here)
          ∙ ap (λ b. has keys k && not b) (sym (has_cleared rest key k (lowest_is_below rest some i.fits) low)))
          (both_end (λ k. has keys k && not (has rest k))
          (λ k. nat_eq k key) c.args.tick c.args.tail c.args.self.now c.loop-rest.self c.end_at.new.self
          (λ k e. ap (λ b. has keys k && not b) (ap (has rest) (eqb-true k key e) ∙ here) ∙ and_false (has keys k))
          i.ended c.end_at.ensures);
    }

pub returns : goal.returns
returns c =
    let keys = c.args.keys in
    same_end false _ (has keys) c.args.tick c.args.tail c.args.self.now c.loop-rest.self
    (λ k low. ap (λ r. has keys k && not (has r k)) c.loop-rest-test.false ∙ (ap (λ b. has keys k && not b) (has_none k) ∙ and_true (has keys k)))
    c.loop-rest.invariant.ended
