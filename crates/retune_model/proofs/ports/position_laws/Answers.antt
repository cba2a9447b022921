use Rattle.std.proofs.Common.{ap, ◌∙◌, arith}
use Rattle.midi_model.specs.Music.{quiet, play}
use Rattle.retune_model.specs.Ports.{all_zero, of_port, music_at}
use Rattle.retune_model.proofs.Events.{music_next}
use Rattle.retune_model.proofs.Numbering.{ascend_from, among_first, timed}
use Rattle.retune_model.proofs.ports.position_laws.Goals as goal

pub returns-clause-events : goal.returns-clause-events
returns-clause-events c z es k = among_first z all_zero 0 k k es (omega arith)

pub returns-clause-music : goal.returns-clause-music
returns-clause-music c z es k = ap (play quiet) (among_first z all_zero 0 k k es (omega arith))

pub returns-clause-own : goal.returns-clause-own
returns-clause-own c z es k e h = music_next 0 k (of_port z es) (ascend_from z all_zero 0 es) ∙ ap (play (music_at (of_port z es) k)) h

pub returns-clause-other : goal.returns-clause-other
returns-clause-other c z es k h = music_next 0 k (of_port z es) (ascend_from z all_zero 0 es) ∙ ap (play (music_at (of_port z es) k)) h

pub returns-clause-timed : goal.returns-clause-timed
returns-clause-timed c z es o = timed z es o
