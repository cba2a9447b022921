use Rattle.std.proofs.Common.{take, arith, length-append}
use Rattle.std.specs.List.{flat_map}
use Rattle.std.proofs.lemmas.List.{length-take}
use Rattle.octave_route.specs.Messages.{two_bytes}
use Rattle.octave_route.proofs.Values.{values_length}
use Rattle.octave_route.proofs.messages.push_values.Goals as goal

pub push_value-requires-clause-room : goal.push_value-requires-clause-room
push_value-requires-clause-room c =
    let vs = take c.loop-value.value-index c.args.values.now in
    rw (c.loop-value.invariant, length-append c.args.out.now.items (flat_map two_bytes vs), values_length vs)
    (omega (arith, length-take c.loop-value.value-index c.args.values.now, c.requires.room, c.loop-value-test.true))
