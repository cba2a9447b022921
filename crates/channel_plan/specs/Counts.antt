-- The pairs that are counted, position by position, and where there were most.
use Rattle.std.specs.Prelude.{◌≡◌, ℕ, suc, List, [], ◌∷◌, Bool, ◌||◌, if◌then◌else◌, Option, Some, None, true, map, length, slice_index}
use Rattle.mt_base.specs.declared.pair.Pair.{Pair as Packed}
use Rattle.mt_base.specs.Midi.{MidiEvent}
use Rattle.retune_model.specs.Options.{Options}
use Rattle.retune_model.specs.Ports.{tick_to}
use Rattle.retune_model.specs.Faults.{Targets}
use Rattle.retune_model.specs.Pairs.{Pair, is_before, is_same_pair}
use Rattle.retune_model.specs.PortNeed.{pairs_on}
use Rattle.retune_model.specs.Need.{IsNeed}
use Rattle.receiver.specs.declared.ends.Ends.{Ends}
use Rattle.lifetimes.specs.Views.{pair_of}
use Rattle.channel_plan.specs.declared.fault.Instant.{Instant}
use Rattle.channel_plan.specs.declared.counter.Counter.{Counter}

-- the place that a pair has in a list, or would have: behind all that come before it
abbrev pub place_in : Pair → List Pair → ℕ
place_in p [] = 0
place_in p (q ∷ qs) = if is_before p q || is_same_pair p q then 0 else suc (place_in p qs)

abbrev pub pairs_in : Counter → List Pair
pairs_in c = map pair_of c.pairs.items

-- what was most up to position k, of a sequence of sets of pairs
pub record IsCounting (at : ℕ → List Pair) (k : ℕ) (c : Counter) : Type 0 where
  pub need : IsNeed at k c.need c.instant.position
  pub witness : map pair_of c.witness.items ≡ at c.instant.position

-- and the pairs of position k
pub record Counts (at : ℕ → List Pair) (k : ℕ) (c : Counter) : Type 0 where
  pub pairs : pairs_in c ≡ at k
  pub most : IsCounting at k c

-- the pairs of these channels of port z are counted through all events
pub record CountsOf (o : Options) (part : ℕ → Bool) (table : Targets) (es : List MidiEvent) (z : ℕ) (c : Counter) : Type 0 where
  pub counts : Counts (pairs_on o part table es z) (length es) c
  pub tick : c.instant.tick ≡ tick_to es c.instant.position

-- the pair that begins, where one does
abbrev pub pairs_begun : Option Packed → List Pair
pairs_begun None = []
pairs_begun (Some p) = pair_of p ∷ []

-- an instant has the tick of its position
pub record IsTimed (tick : ℕ → ℕ) (i : Instant) : Type 0 where
  pub holds : i.tick ≡ tick i.position

-- nothing was counted
pub record IsEmpty (c : Counter) : Type 0 where
  pub pairs : c.pairs.items ≡ []
  pub need : c.need ≡ 0
  pub instant : c.instant ≡ record { position = 0; tick = 0 }
  pub witness : c.witness.items ≡ []

-- a pair is held where no note of its channel ended
abbrev pub IsKept : Ends → (Pair → Bool) → Pair → Type 0
IsKept ended held p = slice_index ended.keys p.part.channel ≡ 0 → held p ≡ true
