use Rattle.receiver.specs.State.{state_of}
use Rattle.route_bend.proofs.Giving.{all_relaxed}
use Rattle.route_bend.proofs.channels.relax.Goals as goal

pub returns : goal.returns
returns c = all_relaxed (state_of c.args.state.now) (state_of c.relax.new.self) c.relax.ensures.own c.len-keys.ensures.items c.relax.ensures.keys
