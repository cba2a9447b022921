-- Values of the worked examples.
use Rattle.std.specs.Prelude.{ℕ, ◌+◌, ◌*◌, ℤ, pos, List, [], ◌∷◌, ◌++◌, Bool}
use Rattle.retune_model.specs.Pairs.{Pair}
use Rattle.channel_plan.specs.declared.fault.Instant.{Instant}
use Rattle.channel_plan.specs.declared.fault.TooMany.{TooMany}
use Rattle.channel_plan.specs.declared.plan.Zone.{Zone}
use Rattle.plan_report.specs.Texts.{need_line, pair_lines}

-- a tick and a position
abbrev pub instant_at : ℕ → ℕ → Instant
instant_at tick position = record { position = position; tick = tick }

-- the pairs of a channel of port 0, counted from 0
abbrev pub pairs_of : ℕ → List ℤ → List Pair
pairs_of c [] = []
pairs_of c (q ∷ qs) = record { part = record { port = 0; channel = c }; steps = q } ∷ pairs_of c qs

-- a port with one pair, its first event the second of the port
abbrev pub one_pair : ℕ → List ℕ
one_pair z = need_line 1 (instant_at 0 (2 + 2 * z)) ++ pair_lines (pairs_of 0 (pos 0 ∷ []))

abbrev pub zone_of : Bool → ℕ → ℕ → ℕ → Zone
zone_of upper part need position = record { port = 0; part = part; upper = upper; need = need; instant = instant_at 0 position }

-- what a port needs at tick 0, at position 3, and how many channels there may be
abbrev pub needs_of : TooMany → ℕ → ℕ → ℕ → TooMany
needs_of t port need allowed = record t { port = port; need = need; allowed = allowed; instant = instant_at 0 3 }
