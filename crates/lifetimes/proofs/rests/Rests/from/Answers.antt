use Rattle.std.proofs.Common.{rules, ◌≡◌, sym, subst, w32}
use Rattle.std.specs.Int.Signed.{lt_z}
use Rattle.std.proofs.lemmas.Int.{to_z-of_z}
use Rattle.std.proofs.lemmas.List.Sorted.{IsPartitionPoint-from_clause}
use Rattle.lifetimes.specs.Resting.{AreRising, IsPlaceOf}
use Rattle.lifetimes.proofs.Rising.{in_parts, place_of}
use Rattle.lifetimes.proofs.rests.Rests.from.Goals as goal

pub returns-clause-point : goal.returns-clause-point
returns-clause-point c =
    let rests = c.args.self.now in
    let xs = c.as_slice.result.now in
    let same : xs ≡ rests.items.items = c.as_slice.ensures.value in
    let rising : AreRising xs = subst AreRising (sym same) rests.rising in
    let given = to_z-of_z w32 c.args.steps c.ranges.steps in
    subst (λ l. IsPlaceOf l c.args.steps c.partition_point.result) same
    (place_of xs c.args.steps c.partition_point.result
    (IsPartitionPoint-from_clause (λ e. lt_z e.steps c.args.steps) xs c.partition_point.result c.partition_point.ensures.partitioned
    (in_parts xs c.args.steps rising) (λ a r f k. search (rules, to_z-of_z, given))))
