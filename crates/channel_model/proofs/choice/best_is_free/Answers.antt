use Rattle.channel_model.proofs.choice.best_is_free.Goals as goal

pub returns-clause-best : goal.returns-clause-best
returns-clause-best c at last n cost row takes = record { within = takes.within; free = takes.free }

pub returns-clause-shortest : goal.returns-clause-shortest
returns-clause-shortest c o table es z n row takes = record { within = takes.within; free = takes.free }

pub returns-clause-member : goal.returns-clause-member
returns-clause-member c o part table es z n row takes = record { within = takes.within; free = takes.free }
