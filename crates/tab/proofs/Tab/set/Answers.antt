use Rattle.std.proofs.Common.{sym}
use Rattle.tab.proofs.Masks.{tells_cleared, tells_set}
use Rattle.tab.proofs.Tab.set.Goals as goal

pub invariant_of-self : goal.invariant_of-self
invariant_of-self g c =
    let i = c.self.invariant in
    (i.0, tells_cleared _ _ _ _ _ _ i.0 c.requires c.self.told2 (sym c.if-value-self.true) i.1)

pub invariant_of-self-else-value-self : goal.invariant_of-self-else-value-self
invariant_of-self-else-value-self g c =
    let i = c.self.invariant in
    (i.0, tells_set _ _ _ _ _ _ i.0 c.requires c.self.told2 (λ e. c.if-value-self.false (sym e)) i.1)
