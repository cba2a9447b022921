use Rattle.std.proofs.Common.{◌≡◌, ◌≤◌, length}
use Rattle.midi_model.specs.FileText.{next_content}
use Rattle.smf_read.proofs.chunk.next_content.Given as goal

abbrev pub decreases-chunks : goal.decreases-chunks
decreases-chunks l = length l.rest

abbrev pub invariant-chunks : goal.invariant-chunks
invariant-chunks l = record {
  told : next_content l.rest ≡ next_content l.fn.bytes;
  within : length l.rest ≤ length l.fn.bytes;
}
