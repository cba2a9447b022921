use Rattle.midi_model.specs.Merged.{one_by_one}
use Rattle.midi_model.proofs.Merging.{sorted_in_order, sorted_permutes, sorted_length, of_track_merged, takes_first, is_playable}
use Rattle.midi_model.proofs.order.merged_order.Goals as goal

pub returns-clause-in_order : goal.returns-clause-in_order
returns-clause-in_order c file = sorted_in_order (one_by_one 0 file.tracks)

pub returns-clause-all : goal.returns-clause-all
returns-clause-all c file = sorted_permutes (one_by_one 0 file.tracks)

pub returns-clause-count : goal.returns-clause-count
returns-clause-count c file = sorted_length (one_by_one 0 file.tracks)

pub returns-clause-each_track : goal.returns-clause-each_track
returns-clause-each_track c t file h = of_track_merged t file.tracks h

pub returns-clause-first : goal.returns-clause-first
returns-clause-first c xs e ys h k = takes_first xs e ys h k

pub returns-clause-playable : goal.returns-clause-playable
returns-clause-playable c file h = is_playable file.tracks h
