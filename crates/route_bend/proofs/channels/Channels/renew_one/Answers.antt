use Rattle.route_bend.proofs.channels.Channels.renew_one.Goals as goal

pub returns-then-is_given : goal.returns-then-is_given
returns-then-is_given g c = c.renew_given.ensures
