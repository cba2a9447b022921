use Rattle.std.proofs.Common.{refl, arith}
use Rattle.retune_model.specs.Faults.{is_part}
use Rattle.retune_model.specs.Examples.{bend_options, resting, equal_table, one_after_other, two_ports}
use Rattle.retune_model.proofs.examples.need_examples.Goals as goal

pub returns-clause-rests : goal.returns-clause-rests
returns-clause-rests c = record {
  bends = refl;
  in_order = (omega arith, (omega arith, (omega arith, (omega arith, tt))));
  faultless = c.fault_laws.ensures.none (resting 1) equal_table (one_after_other 480) refl;
}

pub returns-clause-ports : goal.returns-clause-ports
returns-clause-ports c = record {
  bends = refl;
  in_order = (omega arith, (omega arith, (omega arith, (omega arith, (omega arith, (omega arith, tt))))));
  faultless = c.fault_laws.ensures.none bend_options equal_table two_ports refl;
}

pub returns-clause-two_needed : goal.returns-clause-two_needed
returns-clause-two_needed c channel valid =
    c.fewest_channels.ensures.fewest (resting 1) (is_part (resting 1)) equal_table (one_after_other 480) 0 2 3 channel
    (record { parts = λ d h. h; sound = returns-clause-rests c; need = c.fewest_channels.ensures.counted (resting 1) (is_part (resting 1)) equal_table (one_after_other 480) 0 }) valid
