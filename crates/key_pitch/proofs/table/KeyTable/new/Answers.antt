use Rattle.std.proofs.Common.{arith, ◌∙◌}
use Rattle.std.proofs.lemmas.List.{length-set}
use Rattle.key_pitch.proofs.Filled.{filled}
use Rattle.key_pitch.proofs.table.KeyTable.new.Goals as goal

pub loop-key-preserved : goal.loop-key-preserved
loop-key-preserved c = record {
  size = length-set c.loop-key.pitches c.loop-key.key c.in_ok-pitches.field-0 ∙ c.loop-key.invariant.size;
  made = filled c.args.scale.now c.args.mapping.now c.loop-key.pitches c.loop-key.key c.in_ok-pitches.field-0
      (omega (arith, c.loop-key.invariant.size, c.loop-key-test.true)) c.loop-key.invariant.made c.in_ok-pitches.ensures.found;
}
