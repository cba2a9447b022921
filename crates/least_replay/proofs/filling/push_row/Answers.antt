use Rattle.std.proofs.Common.{◌≡◌, ◌<◌, ◌∙◌, length, sym, ap, arith}
use Rattle.std.proofs.lemmas.List.{length-map}
use Rattle.least_replay.specs.Filled.{behind_by, IsLowBehind}
use Rattle.least_replay.specs.Found.{seen_at}
use Rattle.least_replay.specs.FoundView.{seen, all_seen}
use Rattle.least_replay.proofs.Exact.{seen_there}
use Rattle.least_replay.proofs.RowByRow.{row_step, all_step}
use Rattle.least_replay.proofs.filling.push_row.Goals as goal

pub loop-before-preserved : goal.loop-before-preserved
loop-before-preserved c =
    let runs = c.args.runs.now in
    let r = seen c.args.run.now in
    let i = c.loop-before.before-index in
    let d = c.before-item.result in
    let low : i < length runs = c.loop-before-test.true in
    let l : i < length (all_seen runs) = (let m = length-map runs seen in omega (arith, low, m)) in
    let here : seen d ≡ seen_at (all_seen runs) i = ap seen c.before-item.is ∙ sym (seen_there runs i d low) in
    record {
      row = row_step (λ q. behind_by q r) (all_seen runs) i c.cost_behind.result c.args.after.now.items
          c.loop-before.after.items c.push.new.self.items
          l c.loop-before.invariant.row c.in_ok-push.ensures.items
          (c.cost_behind.ensures.cost c.requires.start ∙ ap (λ q. behind_by q r) here);
      low = all_step (IsLowBehind r) (all_seen runs) i (seen d) l c.loop-before.invariant.low
          (c.cost_behind.ensures.low c.requires.start c.requires.low) here;
    }
