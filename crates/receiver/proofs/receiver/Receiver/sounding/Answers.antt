use Rattle.receiver.proofs.receiver.Receiver.sounding.Goals as goal

pub returns : goal.returns
returns c es h = c.sounding.ensures es h.player
