use Rattle.std.proofs.Common.{arith, rules}
use Rattle.mts_msg.proofs.Keys.{keys_next}
use Rattle.mts_msg.proofs.reading.read_values.Goals as goal

pub loop-key-preserved : goal.loop-key-preserved
loop-key-preserved c = record {
  all = search (rules, c.loop-key.invariant.all);
  read = keys_next c.args.bytes.now c.loop-key.values c.loop-key.key c.value_of.result (omega (arith, c.loop-key.invariant.all, c.loop-key-test.true)) (omega (arith, c.requires, c.loop-key-test.true)) c.value_of.ensures c.loop-key.invariant.read;
}
