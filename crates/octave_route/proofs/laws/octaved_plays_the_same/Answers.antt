use Rattle.octave_route.proofs.Same.{plays_the_same, file_plays_the_same}
use Rattle.octave_route.proofs.laws.octaved_plays_the_same.Goals as goal

pub returns-clause-events : goal.returns-clause-events
returns-clause-events c = plays_the_same (record {
  least_of_sum = c.sums.ensures.least;
  most_of_sum = c.sums.ensures.most;
  least_of_exact = c.exact.ensures.least;
  most_of_exact = c.exact.ensures.most;
  least_of_less = c.wider.ensures.least;
  most_of_more = c.wider.ensures.most;
}) c.music_laws.ensures.fade c.written_is_read.ensures.again

pub returns-clause-file : goal.returns-clause-file
returns-clause-file c = file_plays_the_same (record {
  least_of_sum = c.sums.ensures.least;
  most_of_sum = c.sums.ensures.most;
  least_of_exact = c.exact.ensures.least;
  most_of_exact = c.exact.ensures.most;
  least_of_less = c.wider.ensures.least;
  most_of_more = c.wider.ensures.most;
}) c.music_laws.ensures.fade c.written_is_read.ensures.again
