use Rattle.std.proofs.Common.{rules, ◌≡◌, ◌-◌, ◌∙◌, List, true, false, length, take, drop, sym, ap, subst, w32}
use Rattle.std.specs.List.Sorted.{IsPartitionedBy, IsPartitionPoint}
use Rattle.std.proofs.lemmas.Int.{to_z-of_z}
use Rattle.std.proofs.lemmas.List.{take_rest}
use Rattle.std.proofs.lemmas.List.Sorted.{IsPartitionPoint-from_clause}
use Rattle.retune_model.specs.Faults.{int_eq}
use Rattle.lifetimes.specs.declared.notes.Sounding.{Sounding}
use Rattle.lifetimes.specs.Lists.{IsPlaceIn}
use Rattle.lifetimes.proofs.FirstNote.{first_with}
use Rattle.lifetimes.proofs.WithSteps.{side_by_side, cut_out}
use Rattle.lifetimes.proofs.notes.Notes.with_steps.Goals as goal

pub returns : goal.returns
returns c =
    let notes = c.args.self.now in
    let xs = notes.sounding.items in
    let i = c.from-place.result in
    let j = c.partition_point.result in
    let given = to_z-of_z w32 c.args.steps c.ranges.steps in
    let place : IsPlaceIn xs (first_with c.args.steps) i = subst (λ q. IsPlaceIn xs (first_with q) i) given c.from-place.ensures.point in
    let all : List Sounding = take (length c.as_slice.result.now - i) (drop i c.as_slice.result.now) in
    let rest : all ≡ drop i xs = take_rest c.as_slice.result.now i ∙ ap (drop i) c.as_slice.ensures.value in
    let parted : IsPartitionPoint (λ x. int_eq x.steps c.args.steps ≡ true) (λ x. int_eq x.steps c.args.steps ≡ false) all j =
    IsPartitionPoint-from_clause (λ x. int_eq x.steps c.args.steps) all j c.partition_point.ensures.partitioned
    (subst (IsPartitionedBy (λ x. int_eq x.steps c.args.steps)) (sym rest) (side_by_side xs c.args.steps i notes.in_turn place))
    (λ a r f k. search (rules, to_z-of_z, given)) in
    ap (take j) rest ∙ cut_out xs c.args.steps i notes.in_turn place j
    (subst (λ l. IsPartitionPoint (λ x. int_eq x.steps c.args.steps ≡ true) (λ x. int_eq x.steps c.args.steps ≡ false) l j) rest parted)
