use Rattle.receiver.proofs.Stepping.{values_then}
use Rattle.receiver.proofs.receiver.Receiver.step.Goals as goal

pub returns-clause-stands : goal.returns-clause-stands
returns-clause-stands c es e h at is = record {
  player = c.step-ends.ensures.stands es e h.player at is;
  values = values_then c.args.self.now.tunings c.hear.new.self es e h.values (rw is c.hear.ensures);
}

pub returns-clause-ends : goal.returns-clause-ends
returns-clause-ends c es e h at is = c.step-ends.ensures.ends es e h.player at is
