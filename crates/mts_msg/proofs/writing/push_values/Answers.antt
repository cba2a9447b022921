use Rattle.std.proofs.Common.{take, arith, length-append}
use Rattle.std.specs.List.{flat_map}
use Rattle.std.proofs.lemmas.List.{length-take}
use Rattle.midi_model.specs.TuningBytes.{value_bytes}
use Rattle.mts_msg.proofs.Lengths.{values_length}
use Rattle.mts_msg.proofs.writing.push_values.Goals as goal

pub push_value-requires-clause-room : goal.push_value-requires-clause-room
push_value-requires-clause-room c =
    let vs = take c.loop-value.value-index c.args.values.now in
    rw (c.loop-value.invariant, length-append c.args.out.now.items (flat_map value_bytes vs), values_length vs)
    (omega (arith, length-take c.loop-value.value-index c.args.values.now, c.requires.room, c.loop-value-test.true))
