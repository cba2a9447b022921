use Rattle.std.proofs.Common.{◌≡◌, ◌<◌, ℕ, length, get_or, None}
use Rattle.key_pitch.specs.Tables.{IsKeyBound}
use Rattle.key_pitch.proofs.table.KeyTable.new.Given as goal

abbrev pub invariant-loop-key : goal.invariant-loop-key
invariant-loop-key l = record {
  size : length l.pitches ≡ 128;
  made : (k : ℕ) → k < l.key → IsKeyBound l.scale l.mapping k (get_or l.pitches k None);
}
