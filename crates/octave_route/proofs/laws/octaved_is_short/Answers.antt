use Rattle.octave_route.proofs.Sizes.{adds_few, short}
use Rattle.octave_route.proofs.laws.octaved_is_short.Goals as goal

pub returns-clause-events : goal.returns-clause-events
returns-clause-events c = adds_few

pub returns-clause-tracks : goal.returns-clause-tracks
returns-clause-tracks c = short (record {
  kept = c.merged_order.ensures.each_track;
  tracks = c.file_laws.ensures.tracks;
  within_most = c.size_laws.ensures.written;
  within_file = c.size_laws.ensures.track;
  few_events = c.size_laws.ensures.events;
})
