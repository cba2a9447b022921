use Rattle.std.proofs.Common.{◌≡◌, ◌<◌, ℕ, None, length, get_or}
use Rattle.least_replay.specs.Assignments.{last_on, chains_from}
use Rattle.least_replay.specs.Found.{seen_at}
use Rattle.least_replay.specs.FoundView.{all_seen}
use Rattle.least_replay.proofs.filling.chains.Given as goal

abbrev pub invariant-loop-run : goal.invariant-loop-run
invariant-loop-run l = record {
  many : length l.before.items ≡ l.run-index;
  long : length l.last ≡ 16;
  chains : l.before.items ≡ chains_from (λ b. (seen_at (all_seen l.runs) b).channel) 0 l.run-index;
  last : (c : ℕ) → c < 16 → get_or l.last c None ≡ last_on (λ b. (seen_at (all_seen l.runs) b).channel) c l.run-index;
}
