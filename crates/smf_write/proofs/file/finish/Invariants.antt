use Rattle.std.proofs.Common.{◌≡◌, ◌++◌, length, drop}
use Rattle.midi_model.specs.Writing.{header_bytes}
use Rattle.smf_write.proofs.Parts.{all_chunks}
use Rattle.smf_write.proofs.file.finish.Given as goal

abbrev pub invariant-loop-track : goal.invariant-loop-track
invariant-loop-track l = l.out.items ++ all_chunks (drop l.track-index l.track-items) ≡ header_bytes l.format (length l.track-items) l.division ++ all_chunks l.track-items
