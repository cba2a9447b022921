use Rattle.mtune_files.proofs.HeardSample.{chords_heard}
use Rattle.mtune_files.proofs.worked.sample_laws.Goals as goal

pub returns : goal.returns
returns c = record { heard = chords_heard }
