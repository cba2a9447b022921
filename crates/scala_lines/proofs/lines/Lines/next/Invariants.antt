use Rattle.std.proofs.Common.{◌≡◌, length}
use Rattle.scala_lines.specs.Remaining.{remaining, missing}
use Rattle.scala_lines.proofs.lines.Lines.next.Given as goal

abbrev pub decreases-comments : goal.decreases-comments
decreases-comments l = length l.self.rest.now

abbrev pub invariant-comments : goal.invariant-comments
invariant-comments l = record {
  told : remaining l.self ≡ remaining l.fn.self;
  ends : missing l.self ≡ missing l.fn.self;
}
