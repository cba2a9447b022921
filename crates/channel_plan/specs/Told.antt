-- What a plan, as the program keeps it, tells.
use Rattle.std.specs.Prelude.{◌≡◌, ℕ, zero, suc, List, [], ◌∷◌, nat_eq, if◌then◌else◌, Option, Some, None, slice_get}
use Rattle.mt_base.specs.declared.pair.Pair.{Pair}
use Rattle.channel_plan.specs.declared.fault.Instant.{Instant}
use Rattle.channel_plan.specs.declared.plan.Zone.{Zone}
use Rattle.channel_plan.specs.declared.plan.ZonePlan.{ZonePlan}
use Rattle.channel_plan.specs.declared.plan.PortPlan.{PortPlan}
use Rattle.channel_plan.specs.declared.plan.Given.{Given}
use Rattle.channel_plan.specs.declared.plan.Plan.{Plan}

-- ---- ports

-- what is planned for the port of a number
abbrev pub port_in : List PortPlan → ℕ → Option PortPlan
port_in [] z = None
port_in (p ∷ ps) z = if nat_eq p.number z then Some p else port_in ps z

abbrev pub or_of : {A B : Type 0} → B → (A → B) → Option A → B
or_of b f (Some a) = f a
or_of b f None = b

abbrev pub of_port : {A : Type 0} → A → (PortPlan → A) → Plan → ℕ → A
of_port other told plan z = or_of other told (port_in plan.ports.items z)

abbrev pub ports_in : Plan → List ℕ
ports_in plan = plan.numbers.items

abbrev pub need_in : Plan → ℕ → ℕ
need_in plan z = of_port 0 (λ p. p.need) plan z

abbrev pub instant_in : Plan → ℕ → Instant
instant_in plan z = of_port (record { position = 0; tick = 0 }) (λ p. p.instant) plan z

abbrev pub witness_in : Plan → ℕ → List Pair
witness_in plan z = of_port [] (λ p. p.pairs.items) plan z

abbrev pub run_count_in : Plan → ℕ → ℕ
run_count_in plan z = of_port 0 (λ p. p.runs) plan z

-- ---- zones

abbrev pub zones_in : Plan → ℕ → List ZonePlan
zones_in plan z = of_port [] (λ p. p.zones.items) plan z

abbrev pub zone_in : Plan → ℕ → ℕ → Option Zone
zone_in plan z i = or_of None (λ x. Some x.zone) (slice_get (zones_in plan z) i)

abbrev pub zone_pairs_in : Plan → ℕ → ℕ → List Pair
zone_pairs_in plan z i = or_of [] (λ x. x.pairs.items) (slice_get (zones_in plan z) i)

-- ---- notes, counted from 1

abbrev pub of_note : {A : Type 0} → List A → ℕ → Option A
of_note xs zero = None
of_note xs (suc n) = slice_get xs n

abbrev pub channel_in : Plan → ℕ → Option ℕ
channel_in plan n = or_of None (λ g. Some g.channel) (of_note plan.given.items n)

abbrev pub run_in : Plan → ℕ → Option ℕ
run_in plan n = of_note plan.runs.items n

-- ---- channels given anew

abbrev pub used_in : Plan → ℕ → List ℕ
used_in plan z = of_port [] (λ p. p.used.items) plan z

abbrev pub given_in : Plan → List Given
given_in plan = plan.given.items

abbrev pub runs_in : Plan → List ℕ
runs_in plan = plan.runs.items

-- the note of a run gets the channel at the run's place
abbrev pub place_given : Given → List ℕ → Option ℕ → Given
place_given g used None = g
place_given g used (Some place) = or_of g (λ c. record { port = g.port; channel = c }) (slice_get used place)

abbrev pub recast_note : ℕ → List ℕ → List ℕ → ℕ → Given → Given
recast_note z used rows run g = if nat_eq g.port z then place_given g used (slice_get rows run) else g

abbrev pub recast_notes : ℕ → List ℕ → List ℕ → List ℕ → List Given → List Given
recast_notes z used rows (run ∷ runs) (g ∷ gs) = recast_note z used rows run g ∷ recast_notes z used rows runs gs
recast_notes z used rows _ gs = gs

-- The runs of a port have other channels, and all else stands.
pub record IsRecast (z : ℕ) (rows : List ℕ) (old new : Plan) : Type 0 where
  pub given : given_in new ≡ recast_notes z (used_in old z) rows (runs_in old) (given_in old)
  pub ports : new.ports ≡ old.ports
  pub numbers : new.numbers ≡ old.numbers
  pub runs : new.runs ≡ old.runs
