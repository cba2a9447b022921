use Rattle.midi_model.proofs.Same.{same_after_all}
use Rattle.midi_model.proofs.receiver.music_hears_no_tuning.Goals as goal

pub returns-clause-always : goal.returns-clause-always
returns-clause-always c = same_after_all
