use Rattle.std.proofs.Common.{rules, ◌≡◌, sym, subst}
use Rattle.std.proofs.lemmas.List.Sorted.{IsPartitionPoint-from_clause}
use Rattle.lifetimes.specs.Lists.{AreInTurn, IsPlaceIn, comes_before}
use Rattle.lifetimes.proofs.Turns.{in_parts, place_of}
use Rattle.lifetimes.proofs.notes.Notes.from.Goals as goal

pub returns-clause-point : goal.returns-clause-point
returns-clause-point c =
    let xs = c.as_slice.result.now in
    let same : xs ≡ c.args.self.now.sounding.items = c.as_slice.ensures.value in
    subst (λ l. IsPlaceIn l c.args.note c.partition_point.result) same
    (place_of xs c.args.note c.partition_point.result
    (IsPartitionPoint-from_clause (λ e. comes_before e c.args.note) xs c.partition_point.result c.partition_point.ensures.partitioned
    (in_parts xs c.args.note (subst AreInTurn (sym same) c.args.self.now.in_turn)) (λ a r f k. search rules)))
