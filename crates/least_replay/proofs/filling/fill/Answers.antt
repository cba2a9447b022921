use Rattle.std.proofs.Common.{◌≡◌, ◌<◌, ◌≤◌, ◌∙◌, ◌*◌, [], length, map, take, sym, ap, subst, arith, inl, inr}
use Rattle.std.specs.List.{flat_map}
use Rattle.std.proofs.lemmas.List.{length-map, take_all}
use Rattle.least_replay.specs.Filled.{start_by, behind_by, row_by, IsLowRun}
use Rattle.least_replay.specs.Found.{seen_at}
use Rattle.least_replay.specs.FoundView.{seen, all_seen}
use Rattle.least_replay.proofs.Exact.{seen_there}
use Rattle.least_replay.proofs.RowByRow.{row_step, rows_step, all_step, square}
use Rattle.least_replay.proofs.filling.fill.Goals as goal

pub loop-run-preserved : goal.loop-run-preserved
loop-run-preserved c =
    let runs = c.args.runs.now in
    let ss = all_seen runs in
    let i = c.loop-run.run-index in
    let d = c.run-item.result in
    let low : i < length runs = c.loop-run-test.true in
    let l : i < length ss = (let m = length-map runs seen in omega (arith, low, m)) in
    let here : seen d ≡ seen_at ss i = ap seen c.run-item.is ∙ sym (seen_there runs i d low) in
    record {
      start = row_step start_by ss i c.cost_at_start-cost.result [] c.loop-run.start.items c.push.new.self.items l c.loop-run.invariant.start
          c.in_ok-push.ensures.items (c.cost_at_start-cost.ensures.cost ∙ ap start_by here);
      after = rows_step (row_by ss) ss i c.loop-run.after.items c.push_row.new.after.items (seen d) l c.loop-run.invariant.after
          c.in_ok-push_row.ensures.row here;
      low = all_step (IsLowRun ss) ss i (seen d) l c.loop-run.invariant.low
          (record {
            start = subst (λ n. n ≤ 391) c.cost_at_start-cost.ensures.cost c.cost_at_start-cost.ensures.low;
            behind = c.in_ok-push_row.ensures.low;
          })
          here;
    }

pub unreachable-requires : goal.unreachable-requires
unreachable-requires c =
    let runs = c.args.runs.now in
    let ss = all_seen runs in
    let m = length-map runs seen in
    let end = c.loop-run-test.false in
    let most = c.requires in
    let whole : take c.loop-run.run-index ss ≡ ss = take_all c.loop-run.run-index ss (omega (arith, end, m)) in
    let start : length c.loop-run.start.items ≡ length runs =
    ap length (c.loop-run.invariant.start ∙ ap (map start_by) whole) ∙ length-map ss start_by ∙ m in
    let after : length c.loop-run.after.items ≡ length ss * length ss =
    ap length (c.loop-run.invariant.after ∙ ap (flat_map (row_by ss)) whole) ∙ square (row_by ss) ss (λ r. length-map ss (λ q. behind_by q r)) in
    elim c.in-None.ensures.none [
      | inl l ↦ omega (arith, l, start, most)
      | inr d ↦ d (after ∙ ap (λ n. n * length ss) m ∙ ap (λ n. length runs * n) m ∙ ap (λ n. n * length runs) (sym start)
          ∙ ap (λ n. length c.loop-run.start.items * n) (sym start))
    ]
