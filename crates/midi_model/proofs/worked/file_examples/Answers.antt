use Rattle.std.proofs.Common.{refl}
use Rattle.midi_model.specs.Reading.{rest_of_track, track_from, event_at, body_at, meta_at, bytes_at, content_at, message_at, data_at, quantity_at, quantity_from}
use Rattle.midi_model.specs.FileText.{file_at, all_at, tracks_at, track_at, next_content, content_from, chunk_at, header_at, fields_at}
use Rattle.midi_model.proofs.worked.file_examples.Goals as goal

pub returns-clause-one_note : goal.returns-clause-one_note
unfolding file_at all_at tracks_at track_at next_content content_from chunk_at header_at fields_at rest_of_track track_from event_at body_at meta_at bytes_at content_at message_at data_at quantity_at quantity_from
returns-clause-one_note c = refl

pub returns-clause-running_status : goal.returns-clause-running_status
unfolding file_at all_at tracks_at track_at next_content content_from chunk_at header_at fields_at rest_of_track track_from event_at body_at meta_at bytes_at content_at message_at data_at quantity_at quantity_from
returns-clause-running_status c = refl

pub returns-clause-cut_status : goal.returns-clause-cut_status
unfolding file_at all_at tracks_at track_at next_content content_from chunk_at header_at fields_at rest_of_track track_from event_at body_at meta_at bytes_at content_at message_at data_at quantity_at quantity_from
returns-clause-cut_status c = refl

pub returns-clause-long_delta : goal.returns-clause-long_delta
unfolding file_at all_at tracks_at track_at next_content content_from chunk_at header_at fields_at rest_of_track track_from event_at body_at meta_at bytes_at content_at message_at data_at quantity_at quantity_from
returns-clause-long_delta c = refl

pub returns-clause-bad_delta : goal.returns-clause-bad_delta
unfolding file_at all_at tracks_at track_at next_content content_from chunk_at header_at fields_at rest_of_track track_from event_at body_at meta_at bytes_at content_at message_at data_at quantity_at quantity_from
returns-clause-bad_delta c = refl

pub returns-clause-past_the_chunk : goal.returns-clause-past_the_chunk
unfolding file_at all_at tracks_at track_at next_content content_from chunk_at header_at fields_at rest_of_track track_from event_at body_at meta_at bytes_at content_at message_at data_at quantity_at quantity_from
returns-clause-past_the_chunk c = refl

pub returns-clause-last_tick : goal.returns-clause-last_tick
unfolding file_at all_at tracks_at track_at next_content content_from chunk_at header_at fields_at rest_of_track track_from event_at body_at meta_at bytes_at content_at message_at data_at quantity_at quantity_from
returns-clause-last_tick c = refl

pub returns-clause-too_long : goal.returns-clause-too_long
unfolding file_at all_at tracks_at track_at next_content content_from chunk_at header_at fields_at rest_of_track track_from event_at body_at meta_at bytes_at content_at message_at data_at quantity_at quantity_from
returns-clause-too_long c = refl

pub returns-clause-no_bytes : goal.returns-clause-no_bytes
unfolding file_at all_at tracks_at track_at next_content content_from chunk_at header_at fields_at rest_of_track track_from event_at body_at meta_at bytes_at content_at message_at data_at quantity_at quantity_from
returns-clause-no_bytes c = refl

pub returns-clause-format_2 : goal.returns-clause-format_2
unfolding file_at all_at tracks_at track_at next_content content_from chunk_at header_at fields_at rest_of_track track_from event_at body_at meta_at bytes_at content_at message_at data_at quantity_at quantity_from
returns-clause-format_2 c = refl

pub returns-clause-no_tracks : goal.returns-clause-no_tracks
unfolding file_at all_at tracks_at track_at next_content content_from chunk_at header_at fields_at rest_of_track track_from event_at body_at meta_at bytes_at content_at message_at data_at quantity_at quantity_from
returns-clause-no_tracks c = refl

pub returns-clause-many_tracks : goal.returns-clause-many_tracks
unfolding file_at all_at tracks_at track_at next_content content_from chunk_at header_at fields_at rest_of_track track_from event_at body_at meta_at bytes_at content_at message_at data_at quantity_at quantity_from
returns-clause-many_tracks c = refl

pub returns-clause-missing_track : goal.returns-clause-missing_track
unfolding file_at all_at tracks_at track_at next_content content_from chunk_at header_at fields_at rest_of_track track_from event_at body_at meta_at bytes_at content_at message_at data_at quantity_at quantity_from
returns-clause-missing_track c = refl

pub returns-clause-bad_length : goal.returns-clause-bad_length
unfolding file_at all_at tracks_at track_at next_content content_from chunk_at header_at fields_at rest_of_track track_from event_at body_at meta_at bytes_at content_at message_at data_at quantity_at quantity_from
returns-clause-bad_length c = refl

pub returns-clause-bad_status : goal.returns-clause-bad_status
unfolding file_at all_at tracks_at track_at next_content content_from chunk_at header_at fields_at rest_of_track track_from event_at body_at meta_at bytes_at content_at message_at data_at quantity_at quantity_from
returns-clause-bad_status c = refl

pub returns-clause-bad_data : goal.returns-clause-bad_data
unfolding file_at all_at tracks_at track_at next_content content_from chunk_at header_at fields_at rest_of_track track_from event_at body_at meta_at bytes_at content_at message_at data_at quantity_at quantity_from
returns-clause-bad_data c = refl

pub returns-clause-long_end : goal.returns-clause-long_end
unfolding file_at all_at tracks_at track_at next_content content_from chunk_at header_at fields_at rest_of_track track_from event_at body_at meta_at bytes_at content_at message_at data_at quantity_at quantity_from
returns-clause-long_end c = refl

pub returns-clause-no_content : goal.returns-clause-no_content
unfolding file_at all_at tracks_at track_at next_content content_from chunk_at header_at fields_at rest_of_track track_from event_at body_at meta_at bytes_at content_at message_at data_at quantity_at quantity_from
returns-clause-no_content c = refl

pub returns-clause-no_end : goal.returns-clause-no_end
unfolding file_at all_at tracks_at track_at next_content content_from chunk_at header_at fields_at rest_of_track track_from event_at body_at meta_at bytes_at content_at message_at data_at quantity_at quantity_from
returns-clause-no_end c = refl

pub returns-clause-skipped_chunks : goal.returns-clause-skipped_chunks
unfolding file_at all_at tracks_at track_at next_content content_from chunk_at header_at fields_at rest_of_track track_from event_at body_at meta_at bytes_at content_at message_at data_at quantity_at quantity_from
returns-clause-skipped_chunks c = refl

pub returns-clause-cut_by_sysex : goal.returns-clause-cut_by_sysex
unfolding file_at all_at tracks_at track_at next_content content_from chunk_at header_at fields_at rest_of_track track_from event_at body_at meta_at bytes_at content_at message_at data_at quantity_at quantity_from
returns-clause-cut_by_sysex c = refl
