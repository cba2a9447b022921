use Rattle.std.proofs.Common.{◌≡◌, Bool, true, false, if◌then◌else◌, nat_eq, Option, refl, ◌∙◌, ap, arith}
use Rattle.std.specs.Int.{trailing_zeros, w128}
use Rattle.std.specs.Option.{option_map}
use Rattle.std.proofs.lemmas.Bool.{eqb-true}
use Rattle.receiver.specs.declared.note.Note.{Note}
use Rattle.receiver.specs.Notes.{has, note_of, let_up}
use Rattle.receiver.proofs.Bits.{has_cleared, lowest_is_below, has_lowest, less_without_lowest}
use Rattle.receiver.proofs.keys.Keys.release_all.Goals as goal

-- one more key goes up
one_more : (f : Note → Note) (same held : Bool) (new now old : Option Note) → new ≡ (if same then option_map f now else now) → now ≡ (if held then old else option_map f old)
    → (same ≡ true → held ≡ true) → new ≡ (if (if same then false else held) then old else option_map f old)
one_more f false held new now old e k h = e ∙ k
one_more f true true new now old e k h = e ∙ ap (option_map f) k
one_more f true false new now old e k h = let wrong : false ≡ true = h refl in absurd cc

pub loop-rest-smaller : goal.loop-rest-smaller
loop-rest-smaller c = less_without_lowest c.loop-rest.rest c.loop-rest-test.true c.loop-rest.invariant.fits

pub loop-rest-preserved : goal.loop-rest-preserved
loop-rest-preserved c =
    let rest = c.loop-rest.rest in
    let i = c.loop-rest.invariant in
    let some = c.loop-rest-test.true in
    let key = trailing_zeros w128 rest in
    let less = less_without_lowest rest some i.fits in
    record {
      fits = omega (arith, less, i.fits);
      notes = λ k below. rw (has_cleared rest key k (lowest_is_below rest some i.fits) below)
          (one_more (let_up c.args.tick c.args.velocity) (nat_eq k key) (has rest k) (note_of c.release.new.self k) (note_of c.loop-rest.self k) (note_of c.args.self.now k)
          (c.release.ensures k below) (i.notes k below) (λ e. ap (has rest) (eqb-true k key e) ∙ has_lowest rest some i.fits));
    }
