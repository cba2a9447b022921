use Rattle.std.proofs.Common.{◌≡◌, ◌<◌, ◌^◌, ℕ, if◌then◌else◌}
use Rattle.std.specs.Option.{option_map}
use Rattle.receiver.specs.Notes.{has, note_of, let_up}
use Rattle.receiver.proofs.keys.Keys.release_all.Given as goal

abbrev pub invariant-loop-rest : goal.invariant-loop-rest
invariant-loop-rest l = record {
  fits : l.rest < 2 ^ 128;
  notes : (k : ℕ) → k < 128 → note_of l.self k ≡ (if has l.rest k then note_of l.initial.self k else option_map (let_up l.tick l.velocity) (note_of l.initial.self k));
}

abbrev pub decreases-loop-rest : goal.decreases-loop-rest
decreases-loop-rest l = l.rest
