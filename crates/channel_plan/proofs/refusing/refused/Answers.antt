use Rattle.std.proofs.Common.{◌≡◌, ◌+◌, suc, take, map, sym, ap, ◌∙◌, refl, arith}
use Rattle.std.proofs.lemmas.List.{take-map}
use Rattle.lifetimes.specs.Views.{pair_of}
use Rattle.channel_plan.proofs.refusing.refused.Goals as goal

pub returns-clause-some : goal.returns-clause-some
returns-clause-some c = λ o part table es is. record {
  port = refl;
  allowed = refl;
  need = is.counts.most.need;
  more = c.if-counter-allowed.false;
  tick = is.tick;
  pairs =
      let e : c.args.allowed + 1 ≡ suc c.args.allowed = omega arith in
      ap (map pair_of) (c.first_pairs.ensures ∙ ap (take (c.args.allowed + 1)) c.as_slice.ensures.value)
      ∙ sym (take-map pair_of (c.args.allowed + 1) c.args.counter.now.witness.items)
      ∙ ap (λ n. take n (map pair_of c.args.counter.now.witness.items)) e
      ∙ ap (take (suc c.args.allowed)) is.counts.most.witness;
}
