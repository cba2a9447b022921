use Rattle.route_bend.proofs.Giving.{IsCleared}
use Rattle.route_bend.proofs.channels.Channels.take_away.Given as goal

abbrev pub invariant-loop-part : goal.invariant-loop-part
invariant-loop-part l = IsCleared l.number l.part l.fn.self l.self
