use Rattle.std.proofs.Common.{◌≤◌, arith}
use Rattle.receiver.proofs.Low.{low_at}
use Rattle.receiver.proofs.state.ChannelState.apply.Goals as goal

pub invariant_of-self-clause-voice_fits : goal.invariant_of-self-clause-voice_fits
invariant_of-self-clause-voice_fits c =
    let s = c.args.self.now in
    let one = low_at s.controls.items 0 s.controls_fit in
    let two = low_at s.controls.items 32 s.controls_fit in
    let three : c.in-Program.program ≤ 127 = grind (arith, c.requires.valid, c.in-Program.is) in
    (omega (arith, one, c.get.ensures), omega (arith, two, c.get-in-Program.ensures), three)
