use Rattle.retune_model.proofs.Drumless.{drums_apart}
use Rattle.retune_model.proofs.faults.drums_stand_apart.Goals as goal

pub returns-clause-music : goal.returns-clause-music
returns-clause-music c es = (drums_apart c.music_laws.ensures.settled es).music

pub returns-clause-tuning : goal.returns-clause-tuning
returns-clause-tuning c es = let u = (drums_apart c.music_laws.ensures.settled es).tuning in record { values = u.values; selected = u.selected }
