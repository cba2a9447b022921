use Rattle.std.proofs.Common.{List, ℕ, ◌∙◌, ap, false}
use Rattle.midi_model.specs.Writing.{Written}
use Rattle.smf_write.proofs.Parts.{nothing_written}
use Rattle.smf_write.proofs.text.TrackText.new.Goals as goal

empty : List ℕ → Written
empty bytes = record { bytes = bytes; tick = 0; running = 0; ended = false }

pub returns-clause-stands : goal.returns-clause-stands
unfolding empty
returns-clause-stands c = ap empty c.new.ensures.items ∙ nothing_written
