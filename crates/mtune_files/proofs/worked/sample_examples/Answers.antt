use Rattle.std.proofs.Common.{refl}
use Rattle.midi_model.specs.Writing.{quantity_bytes, events_bytes, chunks_bytes, file_bytes}
use Rattle.mtune_files.specs.Sample.{sample_events}
use Rattle.mtune_files.proofs.worked.sample_examples.Goals as goal

pub returns-clause-one_chord : goal.returns-clause-one_chord
unfolding sample_events quantity_bytes events_bytes chunks_bytes file_bytes
returns-clause-one_chord c = refl

pub returns-clause-two_chords : goal.returns-clause-two_chords
unfolding sample_events quantity_bytes events_bytes chunks_bytes file_bytes
returns-clause-two_chords c = refl
