use Rattle.std.proofs.Common.{◌≡◌, ◌++◌, take}
use Rattle.std.specs.Prelude.{map, flat_map}
use Rattle.lifetimes.specs.Views.{pair_of}
use Rattle.plan_report.specs.Texts.{pair_line}
use Rattle.plan_report.proofs.pairs.push_pairs.Given as goal

abbrev pub invariant-loop-pair : goal.invariant-loop-pair
invariant-loop-pair l = l.out.items ≡ l.fn.out.items ++ flat_map pair_line (take l.pair-index (map pair_of l.pairs))
