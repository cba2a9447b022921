use Rattle.receiver.proofs.receiver.Receiver.room.Goals as goal

pub returns-clause-all : goal.returns-clause-all
returns-clause-all c es e h is = c.room.ensures.all es e h.player is
