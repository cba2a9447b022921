use Rattle.midi_model.proofs.Aging.{aged_after}
use Rattle.midi_model.proofs.Fades.{faded_after}
use Rattle.midi_model.proofs.Steady.{settled_step}
use Rattle.midi_model.proofs.music.music_laws.Goals as goal

pub returns-clause-settled : goal.returns-clause-settled
returns-clause-settled c = settled_step

pub returns-clause-fade : goal.returns-clause-fade
returns-clause-fade c = faded_after

pub returns-clause-age : goal.returns-clause-age
returns-clause-age c = aged_after
