use Rattle.std.proofs.Common.{◌-◌, ◌∙◌, arith, ℕ, take, set, ap, inl}
use Rattle.std.proofs.lemmas.List.{take-replicate, drop-replicate}
use Rattle.event_stream.proofs.Trees.{all_equal}
use Rattle.event_stream.proofs.Waiting.{set_replicate, first_of_all}
use Rattle.event_stream.proofs.least.Least.new.Goals as goal

pub invariant_of-result : goal.invariant_of-result
invariant_of-result c = record {
  some = c.requires.some;
  few = c.requires.few;
  is_tree = all_equal c.args.count 2048 18446744073709551615 (omega (arith, c.requires.few));
  exists = c.requires.some;
  below_others = λ i lt other. omega arith;
  in_place = inl (first_of_all c.args.count 18446744073709551615 c.requires.some (omega (arith, c.requires.few)));
}

pub returns : goal.returns
returns c =
    let m : ℕ = 18446744073709551615 in
    ap (λ l. set (take c.args.count l) 0 m) (drop-replicate c.args.count 2048 m)
    ∙ ap (λ l. set l 0 m) (take-replicate c.args.count (2048 - c.args.count) m (omega (arith, c.requires.few)))
    ∙ set_replicate c.args.count m
