use Rattle.midi_model.proofs.Spelt.{spelt_file, shortest}
use Rattle.midi_model.proofs.Writes.{written-append}
use Rattle.midi_model.proofs.writing.writing_laws.Goals as goal

pub returns-clause-spells : goal.returns-clause-spells
returns-clause-spells c = spelt_file

pub returns-clause-shortest : goal.returns-clause-shortest
returns-clause-shortest c = shortest

pub returns-clause-appended : goal.returns-clause-appended
returns-clause-appended c = written-append
