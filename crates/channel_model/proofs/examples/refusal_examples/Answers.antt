use Rattle.std.proofs.Common.{refl, arith}
use Rattle.retune_model.specs.Faults.{is_part}
use Rattle.retune_model.specs.Examples.{bend_options, just_table, chord}
use Rattle.channel_model.proofs.examples.refusal_examples.Goals as goal

pub returns-clause-chord : goal.returns-clause-chord
returns-clause-chord c = record {
  here = record {
    port = refl;
    allowed = refl;
    need = c.fewest_channels.ensures.counted bend_options (is_part bend_options) just_table chord 0;
    more = omega arith;
    tick = refl;
    pairs = refl;
  };
  least = λ z below. absurd (omega (arith, below));
}

pub returns-clause-parts : goal.returns-clause-parts
returns-clause-parts c = record { here = refl; more = omega arith; least = λ y below. absurd (omega (arith, below)) }
