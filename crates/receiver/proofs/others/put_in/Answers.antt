use Rattle.std.proofs.Common.{◌≡◌, ◌<◌, true, false, arith, sym, ap, ◌∙◌, rules, length}
use Rattle.std.specs.Prelude.{insert}
use Rattle.receiver.specs.Params.{entries_of}
use Rattle.receiver.proofs.Putting.{moved_found, moved_absent, length_other, found_default, found_other, absent_default, absent_other}
use Rattle.receiver.proofs.others.put_in.Goals as goal

pub insert-requires-then-not-is_default-2 : goal.insert-requires-then-not-is_default-2
insert-requires-then-not-is_default-2 g c =
    let os = c.args.others.now.items in
    let x = c.args.param in
    let f = moved_absent _ os _ _ c.in-Err.at c.as_slice.ensures.value c.rank.ensures (c.in-Err.ensures.bound, c.in-Err.ensures.above, c.in-Err.ensures.below) in
    let d : c.is_default-in-Err.result ≡ false = search rules in
    let n = length_other os c.in-Err.at x f.2 f.0 f.1 (sym c.is_default-in-Err.ensures ∙ d) in
    let few : length os < g.row.N = omega (arith, n, c.requires) in
    (omega arith, (f.0, few))

pub returns-then-not-is_default : goal.returns-then-not-is_default
returns-then-not-is_default g c =
    let os = c.args.others.now.items in
    let x = c.args.param in
    let f = moved_found _ os _ _ c.in-Ok.at c.as_slice.ensures.value c.rank.ensures (c.in-Ok.ensures.found.0, c.in-Ok.ensures.found.1, c.in-Ok.ensures.before) in
    let d : c.is_default.result ≡ false = search rules in
    ap entries_of (c.insert.ensures.items ∙ ap (λ ys. insert ys c.in-Ok.at x) c.remove.ensures.items)
    ∙ found_other os c.in-Ok.at x f.2 f.0 f.1 (sym c.is_default.ensures ∙ d)

pub returns-else-not-is_default : goal.returns-else-not-is_default
returns-else-not-is_default g c =
    let os = c.args.others.now.items in
    let x = c.args.param in
    let f = moved_found _ os _ _ c.in-Ok.at c.as_slice.ensures.value c.rank.ensures (c.in-Ok.ensures.found.0, c.in-Ok.ensures.found.1, c.in-Ok.ensures.before) in
    let d : c.is_default.result ≡ true = search rules in
    ap entries_of c.remove.ensures.items
    ∙ found_default os c.in-Ok.at x f.2 f.0 f.1 (sym c.is_default.ensures ∙ d)

pub returns-then-not-is_default-2 : goal.returns-then-not-is_default-2
returns-then-not-is_default-2 g c =
    let os = c.args.others.now.items in
    let x = c.args.param in
    let f = moved_absent _ os _ _ c.in-Err.at c.as_slice.ensures.value c.rank.ensures (c.in-Err.ensures.bound, c.in-Err.ensures.above, c.in-Err.ensures.below) in
    let d : c.is_default-in-Err.result ≡ false = search rules in
    ap entries_of c.insert-then-not-is_default-2.ensures.items
    ∙ absent_other os c.in-Err.at x f.2 f.0 f.1 (sym c.is_default-in-Err.ensures ∙ d)

pub returns-else-not-is_default-2 : goal.returns-else-not-is_default-2
returns-else-not-is_default-2 g c =
    let os = c.args.others.now.items in
    let x = c.args.param in
    let f = moved_absent _ os _ _ c.in-Err.at c.as_slice.ensures.value c.rank.ensures (c.in-Err.ensures.bound, c.in-Err.ensures.above, c.in-Err.ensures.below) in
    let d : c.is_default-in-Err.result ≡ true = search rules in
    absent_default os c.in-Err.at x f.2 f.0 f.1 (sym c.is_default-in-Err.ensures ∙ d)
