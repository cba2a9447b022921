-- Counts of calls, one for each kind of call.
use Rattle.std.specs.Prelude.{ℕ, ◌+◌, ◌≤◌, ◌-◌, ◌^◌, min, List, [], ◌∷◌}
use Rattle.mtune_files.specs.declared.counts.Counts.{Counts}
use Rattle.mtune_files.specs.declared.which.Which.{Which}
use Rattle.mtune_files.specs.declared.which.Which.TheVariants.{Scale, Map, Input}

abbrev pub no_calls : Counts
no_calls = record { scale = 0; map = 0; input = 0; stores = 0; says = 0 }

-- One more. A count of 64 bits stays at its last value.
abbrev pub next : ℕ → ℕ
next n = min (n + 1) (2 ^ 64 - 1)

-- with a load of this kind, a store, a say more
abbrev pub one_load : Which → Counts → Counts
one_load Scale c = record c { scale = next c.scale }
one_load Map c = record c { map = next c.map }
one_load Input c = record c { input = next c.input }

abbrev pub one_store : Counts → Counts
one_store c = record c { stores = next c.stores }

abbrev pub one_say : Counts → Counts
one_say c = record c { says = next c.says }

-- the count of the loads of a kind
abbrev pub loads_of : Which → Counts → ℕ
loads_of Scale c = c.scale
loads_of Map c = c.map
loads_of Input c = c.input

-- the counts by place
abbrev pub in_order : Counts → List ℕ
in_order c = c.scale ∷ c.map ∷ c.input ∷ c.stores ∷ c.says ∷ []

-- the number of the next call, counted from 1 over calls of all kinds
abbrev pub next_call : Counts → ℕ
next_call c = c.scale + c.map + c.input + c.stores + c.says + 1

-- a count rose: it is greater, or at its last value
abbrev pub Rose : ℕ → ℕ → Type 0
Rose before now = next before ≤ now
