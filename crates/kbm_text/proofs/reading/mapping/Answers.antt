use Rattle.std.proofs.Common.{arith}
use Rattle.kbm_text.proofs.Maps.{as_many, degrees}
use Rattle.kbm_text.proofs.reading.mapping.Goals as goal

pub invariant_of-result : goal.invariant_of-result
invariant_of-result c =
    let many = as_many c.prefixes.ensures c.numbers.ensures _ _ _ c.in_ok-entries.ensures in
    record {
      in_order = c.in_ok-keys.ensures.in_order;
      last = c.in_ok-keys.ensures.last;
      middle = c.in_ok-keys.ensures.middle;
      reference = c.in_ok-keys.ensures.reference;
      sounds = c.in_ok-nanohertz.ensures.low;
      frequency = c.in_ok-nanohertz.ensures.high;
      octave = c.in_ok-octave.ensures.high;
      few = omega (arith, many, c.in_ok-size.ensures.high);
      degrees = degrees c.prefixes.ensures c.numbers.ensures _ _ _ c.in_ok-entries.ensures;
    }
