use Rattle.receiver.proofs.receiver.Receiver.state.Goals as goal

pub returns : goal.returns
returns c = record {
  own = λ es h. c.state.ensures.own es h.player;
  keys = λ es h. c.state.ensures.keys es h.player;
  tuning = λ es h. c.state.ensures.tuning es h.player;
}
