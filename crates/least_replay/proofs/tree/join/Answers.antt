use Rattle.std.proofs.Common.{◌≡◌, ◌+◌, ◌<◌, ℕ, List, [], ◌∷◌, ◌++◌, set, inl, inr, get_or-set_same, get_or-set_other, length-append, arith, rules, length, subst, sym, ap, ◌∙◌}
use Rattle.least_replay.specs.Tree.{at, IsTree, IsJoined, IsRelaxed}
use Rattle.least_replay.specs.Columns.{weight, top}
use Rattle.least_replay.specs.CostView.{table_of}
use Rattle.least_replay.proofs.Lists.{at_push_left, at_push_last}
use Rattle.least_replay.proofs.Trees.{low_v, joined, same_or_not}
use Rattle.least_replay.proofs.Weights.{top_low}
use Rattle.least_replay.proofs.Nearness.{root_near, relaxed_zero}
use Rattle.least_replay.proofs.tree.join.Goals as goal

pub bounds-u-r : goal.bounds-u-r
bounds-u-r c = omega (arith, (c.requires.tree.matched.of_column c.args.j c.args.r c.requires.held).0)

pub offset_bounds-u-r : goal.offset_bounds-u-r
offset_bounds-u-r c =
    omega (
      arith,
      (c.requires.tree.matched.of_column c.args.j c.args.r c.requires.held).0,
      c.requires.row,
      c.args.costs.now.matrix.few,
      c.args.costs.now.matrix.few_starts,
    )

pub relax-requires-clause-u_low : goal.relax-requires-clause-u_low
relax-requires-clause-u_low c =
    omega (
      arith,
      c.requires.tree.matched.low c.args.r (c.requires.tree.matched.of_column c.args.j c.args.r c.requires.held).0,
      top_low (table_of c.args.costs.now) c.args.costs.now.low c.args.costs.now.matrix.few c.args.r,
    )

pub relax-requires-clause-v_low : goal.relax-requires-clause-v_low
relax-requires-clause-v_low c = low_v _ _ _ _ _ _ _ _ _ _ _ _ c.requires.tree 2000000391
    (top_low (table_of c.args.costs.now) c.args.costs.now.low c.args.costs.now.matrix.few)

pub relax-requires-clause-near : goal.relax-requires-clause-near
relax-requires-clause-near c =
    root_near (table_of c.args.costs.now) _ _ _ _ _ _ _ _ _ c.requires.end c.args.costs.now.matrix.few c.requires.tree

pub relax-requires-clause-fits : goal.relax-requires-clause-fits
relax-requires-clause-fits c = λ j jl. c.requires.tree.matched.fits c.args.r j
    (c.requires.tree.matched.of_column c.args.j c.args.r c.requires.held).0 jl

pub returns-clause-tree : goal.returns-clause-tree
returns-clause-tree c =
    let t = c.requires.tree in
    let pushed : c.push.new.self.items ≡ c.args.rows.now.items ++ c.args.r ∷ [] = search rules in
    let size : c.len-size.result ≡ length c.args.rows.now.items = search rules in
    let j_in : c.args.j < length c.args.place.now = omega arith in
    let inside : (i : ℕ) → 0 < at (set c.args.place.now c.args.j c.len-size.result) i → (i < length c.args.slack.now) × (at c.args.slack.now i ≡ 0) =
    λ i h. elim (same_or_not i c.args.j) [
      | inl e ↦ subst (λ (x : ℕ). (x < length c.args.slack.now) × (at c.args.slack.now x ≡ 0)) (sym e) (c.requires.within, c.requires.tightly)
      | inr d ↦
          let o : 0 < at c.args.place.now i = subst (λ (x : ℕ). 0 < x) (get_or-set_other c.args.place.now c.args.j i c.len-size.result 0 d) h in
          ((t.found i o).0, t.zero i o)
    ] in
    let i : IsJoined (weight (table_of c.args.costs.now)) (length c.args.slack.now) c.args.r c.args.j c.args.u.now c.args.v.now
    c.args.rows.now.items c.push.new.self.items
    c.args.place.now (set c.args.place.now c.args.j c.len-size.result) c.args.from.now c.relax.new.from c.args.slack.now c.relax.new.slack = record {
      longer = ap length pushed ∙ length-append c.args.rows.now.items (c.args.r ∷ []);
      old = λ k h. ap (λ (w : List ℕ). at w k) pushed ∙ at_push_left c.args.rows.now.items c.args.r k h;
      new = ap (λ (w : List ℕ). at w (length c.args.rows.now.items)) pushed ∙ at_push_last c.args.rows.now.items c.args.r;
      there = get_or-set_same c.args.place.now c.args.j c.len-size.result 0 j_in ∙ size;
      elsewhere = λ i d. get_or-set_other c.args.place.now c.args.j i c.len-size.result 0 d;
      slack_still = λ i h. (relaxed_zero _ _ _ _ _ _ _ (inside i h).1 (c.relax.ensures.within i (omega arith) (inside i h).0)).0;
      from_still = λ i h. (relaxed_zero _ _ _ _ _ _ _ (inside i h).1 (c.relax.ensures.within i (omega arith) (inside i h).0)).1;
      relaxed = λ i il z. subst (λ (n : ℕ). IsRelaxed n (at c.args.u.now c.args.r) (weight (table_of c.args.costs.now) c.args.r i + at c.args.v.now i)
          (at c.args.slack.now i) (at c.relax.new.slack i) (at c.args.from.now i) (at c.relax.new.from i)) size
          (c.relax.ensures.within i (omega arith) il);
    } in
    let same : length c.args.slack.now ≡ length c.relax.new.slack = omega arith in
    subst (λ (n : ℕ). IsTree (weight (table_of c.args.costs.now)) (top (table_of c.args.costs.now)) c.args.b n c.args.u.now c.args.v.now
    c.args.row_of.now c.args.col_of.now c.push.new.self.items (set c.args.place.now c.args.j c.len-size.result)
    c.relax.new.from c.relax.new.slack) same
    (joined _ _ _ _ _ _ _ _ _ _ _ _ t _ _ _ _ _ _ c.requires.within c.requires.outside c.requires.tightly c.requires.held i)
