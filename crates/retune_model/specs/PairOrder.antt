-- Lists of pairs by part and then by steps, in which none stands twice; and their laws.
use Rattle.std.specs.Prelude.{◌≡◌, ℕ, Bool, true, List, [], ◌∷◌, ◌&&◌, ◌||◌, filter}
use Rattle.std.specs.List.{AllByRecursion}
use Rattle.std.specs.Set.{is_member}
use Rattle.retune_model.specs.Options.{Options}
use Rattle.retune_model.specs.Ports.{PortEvents}
use Rattle.retune_model.specs.Faults.{Targets}
use Rattle.retune_model.specs.Pairs.{Pair, is_same_pair, is_before, with_pair}
use Rattle.retune_model.specs.Rests.{pairs_at, held_at}

-- each comes before all behind it
abbrev pub AreOrdered : List Pair → Type 0
AreOrdered [] = Unit {0}
AreOrdered (p ∷ ps) = AllByRecursion (λ q. is_before p q ≡ true) ps × AreOrdered ps

-- each pair of the one is in the other
abbrev pub HasEachOf : List Pair → List Pair → Type 0
HasEachOf qs ps = (p : Pair) → is_member is_same_pair ps p ≡ true → is_member is_same_pair qs p ≡ true

-- ---- laws

-- so are the pairs at a position, and those that are held at an event
abbrev pub PairsAreOrdered : Type 0
PairsAreOrdered = (o : Options) (part : ℕ → Bool) (table : Targets) (port : PortEvents) (k : ℕ) → AreOrdered (pairs_at o part table port k)

abbrev pub HeldAreOrdered : Type 0
HeldAreOrdered = (o : Options) (part : ℕ → Bool) (table : Targets) (port : PortEvents) (k : ℕ) → AreOrdered (held_at o part table port k)

-- two such lists with the same members are the same list
abbrev pub OrderedAreTheSame : Type 0
OrderedAreTheSame = (ps qs : List Pair) → AreOrdered ps → AreOrdered qs → HasEachOf qs ps → HasEachOf ps qs → ps ≡ qs

-- with one pair more, and with those alone that pass a test, a list is such a list
abbrev pub WithOneMore : Type 0
WithOneMore = (p : Pair) (ps : List Pair) → AreOrdered ps → AreOrdered (with_pair p ps)

abbrev pub ThatPass : Type 0
ThatPass = (test : Pair → Bool) (ps : List Pair) → AreOrdered ps → AreOrdered (filter test ps)

-- and what is in them
abbrev pub HasOneMore : Type 0
HasOneMore = (p q : Pair) (ps : List Pair) → is_member is_same_pair (with_pair p ps) q ≡ (is_same_pair q p || is_member is_same_pair ps q)

abbrev pub HasThatPass : Type 0
HasThatPass = (test : Pair → Bool) (q : Pair) (ps : List Pair) → is_member is_same_pair (filter test ps) q ≡ (is_member is_same_pair ps q && test q)
