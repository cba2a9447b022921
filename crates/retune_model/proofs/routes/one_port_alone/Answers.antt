use Rattle.retune_model.proofs.PortsApart.{dump_alone, live_alone}
use Rattle.retune_model.proofs.routes.one_port_alone.Goals as goal

pub returns-clause-dump : goal.returns-clause-dump
returns-clause-dump c = dump_alone

pub returns-clause-live : goal.returns-clause-live
returns-clause-live c = live_alone
