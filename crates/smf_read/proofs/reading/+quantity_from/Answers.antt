use Rattle.std.proofs.Common.{arith, ◌<◌}
use Rattle.smf_read.proofs.Room.{room_step, room_low}
use Rattle.smf_read.proofs.reading.+quantity_from.Goals as goal

pub overflow_mul-result : goal.overflow_mul-result
overflow_mul-result t c = omega (arith, room_low c.args.turns c.args.before c.requires.small)

pub overflow_add-result : goal.overflow_add-result
overflow_add-result t c = omega (arith, c.if-byte-lt128.true, room_low c.args.turns c.args.before c.requires.small)

pub overflow_mul-before : goal.overflow_mul-before
overflow_mul-before t c = omega (arith, room_low c.args.turns c.args.before c.requires.small)

pub overflow_add-before : goal.overflow_add-before
overflow_add-before t c = omega (arith, c.type_inv.bytes 0, room_low c.args.turns c.args.before c.requires.small)

pub quantity_from-requires : goal.quantity_from-requires
quantity_from-requires t c =
    let more : 0 < c.args.turns = omega (arith, c.if-turns-eq0.false) in (
      omega (arith, more, c.decreases),
      (omega (arith, c.requires.few), room_step c.args.turns c.args.before _ more c.requires.few c.requires.small (omega (arith, c.type_inv.bytes 0))),
    )
