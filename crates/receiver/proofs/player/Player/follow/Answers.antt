use Rattle.receiver.proofs.player.Player.follow.Goals as goal

pub returns-then-lead : goal.returns-then-lead
returns-then-lead c = rw (c.in-Sysex.is, c.if-lead.true) (c.system.ensures c.args.tick)
