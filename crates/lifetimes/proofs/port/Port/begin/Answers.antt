use Rattle.std.proofs.Common.{sym, subst}
use Rattle.lifetimes.specs.Port.{Begins}
use Rattle.lifetimes.proofs.port.Port.begin.Goals as goal

pub returns-in-Some : goal.returns-in-Some
returns-in-Some c = subst (λ o. Begins o c.args.note c.args.self.now c.strike.new.self) (sym c.in-Some.is) c.strike.ensures
