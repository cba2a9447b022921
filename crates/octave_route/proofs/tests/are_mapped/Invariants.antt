use Rattle.std.proofs.Common.{◌≡◌, ◌≢◌, ◌<◌, ℕ, true, None}
use Rattle.key_pitch.specs.Aims.{table_of}
use Rattle.octave_route.specs.Classes.{is_used}
use Rattle.octave_route.proofs.tests.are_mapped.Given as goal

abbrev pub invariant-loop-key : goal.invariant-loop-key
invariant-loop-key l = (key : ℕ) → key < l.key → is_used l.used key ≡ true → table_of l.table key ≢ None
