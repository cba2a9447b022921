use Rattle.std.proofs.Common.{◌≡◌, ◌<◌, ◌∙◌, ◌+◌, ◌∷◌, [], ℕ, suc, None, Some, length, set, get_or, sym, ap, arith}
use Rattle.std.proofs.lemmas.List.{length-append, length-set}
use Rattle.least_replay.specs.Found.{Seen, seen_at}
use Rattle.least_replay.specs.FoundView.{all_seen}
use Rattle.least_replay.specs.declared.found.Run.{Run}
use Rattle.least_replay.proofs.Exact.{seen_there}
use Rattle.least_replay.proofs.RowByRow.{chains_step, last_step}
use Rattle.least_replay.proofs.filling.chains.Goals as goal

pub loop-run-preserved : goal.loop-run-preserved
loop-run-preserved c =
    let runs = c.args.runs.now in
    let i = c.loop-run.run-index in
    let d = c.run-item.result in
    let low : i < length runs = c.loop-run-test.true in
    let channel : ℕ → ℕ = λ b. (seen_at (all_seen runs) b).channel in
    let x : ℕ = c.number-channel.result in
    let here : x ≡ channel i =
    c.number-channel.ensures.value ∙ ap (λ (r : Run). r.channel) c.run-item.is ∙ ap (λ (r : Seen). r.channel) (sym (seen_there runs i d low)) in
    let bound = c.number-channel.ensures.bound in
    let n : c.len-number.result ≡ i = (let a = c.len-number.ensures in let b = c.loop-run.invariant.many in omega (arith, a, b)) in
    let more : i + 1 ≡ suc i = omega arith in
    let items = c.in_ok-push.ensures.items in
    let last = c.loop-run.last in
    record {
      many = (let a = ap length items in let b = length-append c.loop-run.before.items (get_or last x None ∷ []) in
          let e = c.loop-run.invariant.many in omega (arith, a, b, e));
      long = length-set last x (Some c.len-number.result) ∙ c.loop-run.invariant.long;
      chains = chains_step channel i (i + 1) x c.loop-run.before.items c.push.new.self.items last more c.loop-run.invariant.chains items here
          (c.loop-run.invariant.last x (omega (arith, bound)));
      last = λ e l. ap (λ m. get_or (set last x (Some m)) e None) n
          ∙ last_step channel i (i + 1) x last more here (let long = c.loop-run.invariant.long in omega (arith, bound, long))
          c.loop-run.invariant.last e l;
    }
