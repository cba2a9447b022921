use Rattle.std.proofs.Common.{◌≡◌, true}
use Rattle.retune_model.specs.Ports.{all_zero}
use Rattle.retune_model.specs.Rests.{is_aimed}
use Rattle.retune_model.proofs.Numbering.{all_of_port}
use Rattle.retune_model.proofs.Faulty.{all_aimed, all_narrower, fine_ports, faultless_ports}
use Rattle.retune_model.proofs.Breaking.{break_none, one_port_breaks_none, in_turn_faultless}
use Rattle.retune_model.proofs.faults.sound_sources.Goals as goal

pub returns-clause-aimed : goal.returns-clause-aimed
returns-clause-aimed c o part table es z parts sound = record {
  timed = c.position_laws.ensures.timed z es sound.in_order;
  aimed = all_of_port (λ e. is_aimed o part table e.tick e.what ≡ true) z all_zero 0 es (all_narrower o part table es parts (all_aimed o table es sound.bends sound.faultless));
}

pub returns-clause-fine : goal.returns-clause-fine
returns-clause-fine c = fine_ports

pub returns-clause-faultless : goal.returns-clause-faultless
returns-clause-faultless c = faultless_ports

pub returns-clause-ports : goal.returns-clause-ports
returns-clause-ports c = break_none

pub returns-clause-one_port : goal.returns-clause-one_port
returns-clause-one_port c = one_port_breaks_none

pub returns-clause-in_turn : goal.returns-clause-in_turn
returns-clause-in_turn c = in_turn_faultless
