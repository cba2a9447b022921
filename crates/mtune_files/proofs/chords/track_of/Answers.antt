use Rattle.std.proofs.Common.{arith, ap, ◌∙◌, sym}
use Rattle.std.specs.List.{flat_map, range_with_len}
use Rattle.midi_model.specs.Writing.{written}
use Rattle.mtune_files.specs.Sample.{events_at}
use Rattle.mtune_files.proofs.Sampled.{steps_more, all_steps}
use Rattle.mtune_files.proofs.chords.track_of.Goals as goal

pub loop-step-preserved : goal.loop-step-preserved
loop-step-preserved c =
    let put = flat_map (events_at c.args.chords) (range_with_len 0 c.loop-step.step) in
    record {
      stands = c.in_ok-put_step.ensures.stands put c.loop-step.invariant.stands ∙ sym (ap written (steps_more c.args.chords c.loop-step.step));
      order = omega (arith, c.in_ok-put_step.ensures.order);
      near = c.in_ok-put_step.ensures.near;
      opened = c.in_ok-put_step.ensures.open;
      short = omega (arith, c.in_ok-put_step.ensures.grows, c.loop-step.invariant.short);
    }

pub returns-clause-stands : goal.returns-clause-stands
returns-clause-stands c =
    let put = flat_map (events_at c.args.chords) (range_with_len 0 c.loop-step.step) in
    c.in_ok-put.ensures.stands put c.loop-step.invariant.stands ∙ ap written (all_steps c.args.chords c.loop-step.step (omega arith))
