use Rattle.std.proofs.Common.{◌≡◌, ◌<◌, ◌≤◌, ◌-◌, ℕ, length, slice_index, nat_eq, if◌then◌else◌}
use Rattle.std.specs.Int.{bit_at}
use Rattle.tab.proofs.Tab.reset.Given as goal

abbrev pub invariant-loop-i : goal.invariant-loop-i
invariant-loop-i g l = record {
  within : l.i ≤ g.row.N;
  base : l.self-inside.base ≡ l.initial.self-inside.base;
  mask : l.self-inside.mask ≡ l.initial.self-inside.mask;
  full : length l.self-inside.items ≡ g.row.N;
  done : (k : ℕ) → k < l.i
      → slice_index l.self-inside.items k ≡ (if nat_eq (bit_at l.which k) 1 then slice_index l.initial.self-inside.base k else slice_index l.initial.self-inside.items k);
  rest : (k : ℕ) → l.i ≤ k → slice_index l.self-inside.items k ≡ slice_index l.initial.self-inside.items k;
}

abbrev pub decreases-loop-i : goal.decreases-loop-i
decreases-loop-i g l = g.row.N - l.i
