use Rattle.std.proofs.Common.{◌≡◌, ◌≢◌, ◌<◌, ℕ, true}
use Rattle.route_bend.specs.Channels.{is_given, steps_in}
use Rattle.route_bend.proofs.channels.Channels.find.Given as goal

abbrev pub invariant-loop-number : goal.invariant-loop-number
invariant-loop-number l = (c : ℕ) → c < l.number → is_given l.self l.part c ≡ true → steps_in l.self c ≢ l.steps
