use Rattle.std.proofs.Common.{◌-◌, ◌≡◌, ◌≤◌, drop}
use Rattle.lifetimes.specs.Stands.{place_of, place_from, numbers_in}
use Rattle.lifetimes.proofs.source.Source.place.Given as goal

abbrev pub invariant-loop-place : goal.invariant-loop-place
invariant-loop-place l = record {
  within : l.place ≤ l.self.used;
  rest : place_from l.place l.port (drop l.place (numbers_in l.self)) ≡ place_of l.self l.port;
}

abbrev pub decreases-loop-place : goal.decreases-loop-place
decreases-loop-place l = l.self.used - l.place
