use Rattle.receiver.proofs.receiver.Receiver.new.Goals as goal

pub returns-clause-stands : goal.returns-clause-stands
returns-clause-stands c = record {
  player = c.new.ensures.stands;
  values = λ p k pl kl. c.new-2.ensures p k;
}
