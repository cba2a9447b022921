use Rattle.std.proofs.Common.{◌≤◌, ◌∙◌, length, subst}
use Rattle.std.specs.Prelude.{All}
use Rattle.midi_model.specs.Writing.{Written}
use Rattle.event_stream.specs.Distributed.{all_bytes}
use Rattle.event_stream.proofs.Putting.{all_ended, all_short}
use Rattle.event_stream.proofs.Dealing.{merged_again}
use Rattle.event_stream.proofs.tracks.TrackSet.into_tracks.Goals as goal

pub returns-clause-ended : goal.returns-clause-ended
returns-clause-ended c tracks es is h = all_ended tracks es c.self.inside.tracks.items (c.self.view_is ∙ is) h

pub returns-clause-merged_again : goal.returns-clause-merged_again
returns-clause-merged_again c tracks es h = merged_again c.merged_order.ensures.first tracks es h.in_order h.in_tracks

pub returns-clause-short : goal.returns-clause-short
returns-clause-short c = subst (λ s. All (λ (t : Written). length t.bytes ≤ all_bytes s) c.self.inside.tracks.items) c.self.view_is (all_short c.self.inside.tracks.items)
