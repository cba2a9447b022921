use Rattle.std.proofs.Common.{◌∙◌, ap, sym}
use Rattle.midi_model.specs.Tuning.{retuned}
use Rattle.mts_msg.specs.Readings.{retune_of}
use Rattle.receiver.specs.Tunings.{value_in}
use Rattle.receiver.proofs.tunings.Tunings.take.Goals as goal

pub returns-in-Dump : goal.returns-in-Dump
returns-in-Dump c = λ p k one two.
    c.fill.ensures p k one two
    ∙ sym (ap (λ t. retuned (retune_of t).program (retune_of t).keys (value_in c.args.self.now) p k) c.in-Dump.is)

pub returns-in-Changes : goal.returns-in-Changes
returns-in-Changes c = λ p k one two.
    c.change.ensures p k one two
    ∙ ap (λ ys. retuned c.in-Changes.program ys (value_in c.args.self.now) p k) c.as_slice.ensures.value
    ∙ sym (ap (λ t. retuned (retune_of t).program (retune_of t).keys (value_in c.args.self.now) p k) c.in-Changes.is)
