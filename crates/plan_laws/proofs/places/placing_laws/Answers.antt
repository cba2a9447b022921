use Rattle.plan_laws.proofs.Placing.{at_first, frees, clears, none_begins, one_begins, best_taken, none_taken, one_free}
use Rattle.plan_laws.proofs.places.placing_laws.Goals as goal

pub returns : goal.returns
returns c =
    let told = c.pair_laws.ensures.told in
    record {
      first = at_first;
      leave = frees told;
      clear = clears told;
      none = none_begins told;
      one = one_begins told;
      best = best_taken told;
      idle = none_taken;
      room = one_free told;
    }
