use Rattle.std.proofs.Common.{◌≤◌, ℕ, sym, subst}
use Rattle.receiver.specs.Params.{entries_of, numbered}
use Rattle.receiver.proofs.Low.{value_low}
use Rattle.receiver.proofs.state.ChannelState.value.Goals as goal

pub returns-clause-high : goal.returns-clause-high
returns-clause-high c =
    let s = c.args.self.now in
    let P : ℕ × ℕ → Type 0 = λ v. v.0 ≤ 127 in
    subst P (sym c.value_at.ensures) (value_low s.fixed (entries_of s.others.items) (numbered c.args.registered c.args.high c.args.low) s.fixed_fit s.others_fit).0

pub returns-clause-low : goal.returns-clause-low
returns-clause-low c =
    let s = c.args.self.now in
    let P : ℕ × ℕ → Type 0 = λ v. v.1 ≤ 127 in
    subst P (sym c.value_at.ensures) (value_low s.fixed (entries_of s.others.items) (numbered c.args.registered c.args.high c.args.low) s.fixed_fit s.others_fit).1
