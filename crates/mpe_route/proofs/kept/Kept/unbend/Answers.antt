use Rattle.std.proofs.Common.{◌≡◌, ◌∙◌, ◌&&◌, cond, nat_eq, refl, ap, arith}
use Rattle.mpe_route.specs.Kept.{bend_in, with_bend}
use Rattle.mpe_route.proofs.Unbent.{unbent_first, unbent_next, unbent_last}
use Rattle.mpe_route.proofs.kept.Kept.unbend.Goals as goal

pub loop-number-init : goal.loop-number-init
loop-number-init c = record { bends = λ z d byte low. unbent_first c.args.port (bend_in c.args.self.now) z d; begun = refl }

pub loop-number-preserved : goal.loop-number-preserved
loop-number-preserved c =
    let channel : c.at.result ≡ c.loop-number.number = c.at.ensures in
    record {
      bends = λ z d byte low.
          c.set_bend.ensures.bends z d byte low
          ∙ ap (λ x. with_bend c.args.port x 8192 (bend_in c.loop-number.self) z d) channel
          ∙ ap (λ b. cond (nat_eq z c.args.port && nat_eq d c.loop-number.number) 8192 b) (c.loop-number.invariant.bends z d byte low)
          ∙ unbent_next c.args.port c.loop-number.number (bend_in c.args.self.now) z d;
      begun = c.set_bend.ensures.begun ∙ c.loop-number.invariant.begun;
    }

pub returns-clause-bends : goal.returns-clause-bends
returns-clause-bends c z d byte low =
    c.loop-number.invariant.bends z d byte low
    ∙ unbent_last c.args.port c.loop-number.number (bend_in c.args.self.now) z d low (omega (arith, c.loop-number-test.false))

pub returns-clause-begun : goal.returns-clause-begun
returns-clause-begun c = c.loop-number.invariant.begun
