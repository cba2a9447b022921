use Rattle.std.proofs.Common.{◌∙◌, None, sym}
use Rattle.std.proofs.lemmas.List.{at_drop_all}
use Rattle.midi_model.specs.Tuning.{retuned}
use Rattle.receiver.specs.Tunings.{value_in}
use Rattle.receiver.proofs.Retuning.{changes_step, key_below}
use Rattle.receiver.proofs.tunings.Tunings.change.Goals as goal

pub set-requires-clause-key : goal.set-requires-clause-key
set-requires-clause-key c = key_below c.args.list.now c.loop-change.change-index (0, None) c.requires.keys c.loop-change-test.true

pub loop-change-preserved : goal.loop-change-preserved
loop-change-preserved c = λ p k one two.
    changes_step c.args.program c.args.list.now c.loop-change.change-index (0, None) (value_in c.loop-change.self) (value_in c.set.new.self) p k
    c.loop-change-test.true (c.set.ensures p k one two)
    ∙ c.loop-change.invariant p k one two

pub returns : goal.returns
returns c = λ p k one two.
    sym (at_drop_all (λ ys. retuned c.args.program ys (value_in c.loop-change.self) p k) c.args.list.now c.loop-change.change-index c.loop-change-test.false)
    ∙ c.loop-change.invariant p k one two
