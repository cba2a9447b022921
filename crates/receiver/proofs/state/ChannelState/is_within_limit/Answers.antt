use Rattle.std.proofs.Common.{◌≤◌, length, arith}
use Rattle.std.proofs.lemmas.List.{length-map}
use Rattle.receiver.specs.Params.{entries_of, entry_of}
use Rattle.receiver.proofs.Fixed.{counted_are}
use Rattle.receiver.proofs.state.ChannelState.is_within_limit.Goals as goal

pub returns : goal.returns
returns c =
    let s = c.args.self.now in
    let n = counted_are s.fixed (entries_of s.others.items) s.others_fit in
    let m = length-map s.others.items entry_of in
    let few : length s.others.items ≤ 16 = omega (arith, c.len.ensures.value, c.len.ensures.fits) in
    (λ t. omega (arith, n, m, few), λ t. grind (arith, c.len.ensures.fits))
