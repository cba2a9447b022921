use Rattle.receiver.proofs.receiver.Receiver.master.Goals as goal

pub returns : goal.returns
returns c es h = c.master.ensures es h.player
