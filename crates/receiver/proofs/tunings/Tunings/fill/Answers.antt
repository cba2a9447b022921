use Rattle.std.proofs.Common.{◌≤◌, ◌∙◌, None, length, sym, arith}
use Rattle.std.proofs.lemmas.List.{at_drop_all}
use Rattle.midi_model.specs.Tuning.{retuned}
use Rattle.midi_model.specs.TuningBytes.{numbered}
use Rattle.receiver.specs.Tunings.{value_in}
use Rattle.receiver.proofs.Retuning.{dump_step}
use Rattle.receiver.proofs.tunings.Tunings.fill.Goals as goal

pub loop-key-preserved : goal.loop-key-preserved
loop-key-preserved c = record {
  length = c.loop-key.invariant.length;
  values = λ p k one two.
      dump_step c.args.program c.args.values.now c.loop-key.key None (value_in c.loop-key.self) (value_in c.set.new.self) p k
      (omega (arith, c.loop-key.invariant.length, c.loop-key-test.true)) (c.set.ensures p k one two)
      ∙ c.loop-key.invariant.values p k one two;
}

pub returns : goal.returns
returns c = λ p k one two.
    let all : length c.args.values.now ≤ c.loop-key.key = omega (arith, c.loop-key.invariant.length, c.loop-key-test.false) in
    sym (at_drop_all (λ vs. retuned c.args.program (numbered c.loop-key.key vs) (value_in c.loop-key.self) p k) c.args.values.now c.loop-key.key all)
    ∙ c.loop-key.invariant.values p k one two
