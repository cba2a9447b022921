use Rattle.std.proofs.Common.{◌*◌, pos, ◌*ℤ◌, to_z, of_z, w32, ap, sym, ◌∙◌}
use Rattle.std.specs.Int.Signed.{lt_z}
use Rattle.retune_model.specs.Scale.{size_of}
use Rattle.std.proofs.lemmas.Int.{to_z-of_z}
use Rattle.key_pitch.proofs.Bounds.{LawsDown}
use Rattle.key_pitch.proofs.Sums.{size_abs, up_sums, down_sums, up_small, down_small}
use Rattle.key_pitch.proofs.sum.Sum.repeated.Goals as goal

pub returns-then-turns-lt0-clause-sum : goal.returns-then-turns-lt0-clause-sum
returns-then-turns-lt0-clause-sum c =
    let fits = to_z-of_z w32 c.args.turns c.ranges.turns in
    let laws : LawsDown = record {
      least_of_multiple = c.multiples.ensures.least;
      most_of_multiple = c.multiples.ensures.most;
      least_of_difference = c.differences.ensures.least;
      most_of_difference = c.differences.ensures.most;
      least_of_exact = c.exact.ensures.least;
      most_of_exact = c.exact.ensures.most;
    } in
    down_sums laws c.args.turns c.args.self _ (ap (λ z. lt_z z (pos 0)) (sym fits) ∙ c.if-turns-lt0.true) (record {
      terms = ap (λ n. n * c.args.self.terms) (c.unsigned_abs.ensures.value ∙ size_abs (to_z w32 (of_z w32 c.args.turns)) ∙ ap size_of fits);
      lo = c.grains_repeated-hi.ensures ∙ ap (λ z. z *ℤ c.args.self.bracket.hi.0) fits;
      hi = c.grains_repeated-lo.ensures ∙ ap (λ z. z *ℤ c.args.self.bracket.lo.0) fits;
    })

pub returns-then-turns-lt0-clause-small : goal.returns-then-turns-lt0-clause-small
returns-then-turns-lt0-clause-small c =
    let fits = to_z-of_z w32 c.args.turns c.ranges.turns in
    down_small c.args.turns c.args.self _ (ap (λ z. lt_z z (pos 0)) (sym fits) ∙ c.if-turns-lt0.true) (record {
      terms = ap (λ n. n * c.args.self.terms) (c.unsigned_abs.ensures.value ∙ size_abs (to_z w32 (of_z w32 c.args.turns)) ∙ ap size_of fits);
      lo = c.grains_repeated-hi.ensures ∙ ap (λ z. z *ℤ c.args.self.bracket.hi.0) fits;
      hi = c.grains_repeated-lo.ensures ∙ ap (λ z. z *ℤ c.args.self.bracket.lo.0) fits;
    })

pub returns-clause-sum : goal.returns-clause-sum
returns-clause-sum c =
    let fits = to_z-of_z w32 c.args.turns c.ranges.turns in
    up_sums c.multiples.ensures.least c.multiples.ensures.most c.args.turns c.args.self _ (ap (λ z. lt_z z (pos 0)) (sym fits) ∙ c.if-turns-lt0.false) (record {
      terms = ap (λ n. n * c.args.self.terms) (c.unsigned_abs.ensures.value ∙ size_abs (to_z w32 (of_z w32 c.args.turns)) ∙ ap size_of fits);
      lo = c.grains_repeated-lo.ensures ∙ ap (λ z. z *ℤ c.args.self.bracket.lo.0) fits;
      hi = c.grains_repeated-hi.ensures ∙ ap (λ z. z *ℤ c.args.self.bracket.hi.0) fits;
    })

pub returns-clause-small : goal.returns-clause-small
returns-clause-small c =
    let fits = to_z-of_z w32 c.args.turns c.ranges.turns in
    up_small c.args.turns c.args.self _ (ap (λ z. lt_z z (pos 0)) (sym fits) ∙ c.if-turns-lt0.false) (record {
      terms = ap (λ n. n * c.args.self.terms) (c.unsigned_abs.ensures.value ∙ size_abs (to_z w32 (of_z w32 c.args.turns)) ∙ ap size_of fits);
      lo = c.grains_repeated-lo.ensures ∙ ap (λ z. z *ℤ c.args.self.bracket.lo.0) fits;
      hi = c.grains_repeated-hi.ensures ∙ ap (λ z. z *ℤ c.args.self.bracket.hi.0) fits;
    })
