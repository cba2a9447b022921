use Rattle.midi_model.specs.FileText.{events_of}
use Rattle.midi_model.proofs.Tracks.{by_chunks}
use Rattle.midi_model.proofs.Runs.{by_events, first_by_delta}
use Rattle.midi_model.proofs.Counts.{two_bytes, track_at_sound, tracks_count}
use Rattle.midi_model.proofs.Takes.{track_takes}
use Rattle.midi_model.proofs.Playing.{is_track_of}
use Rattle.midi_model.proofs.reading.reading_laws.Goals as goal

pub returns-clause-chunks : goal.returns-clause-chunks
returns-clause-chunks c = by_chunks

pub returns-clause-events : goal.returns-clause-events
returns-clause-events c = by_events

pub returns-clause-two_bytes : goal.returns-clause-two_bytes
returns-clause-two_bytes c = two_bytes

pub returns-clause-first_tick : goal.returns-clause-first_tick
returns-clause-first_tick c = first_by_delta

pub returns-clause-track : goal.returns-clause-track
returns-clause-track c track content few none = is_track_of track content (events_of content) few (track_takes content none)

pub returns-clause-whole : goal.returns-clause-whole
returns-clause-whole c = track_at_sound

pub returns-clause-few : goal.returns-clause-few
returns-clause-few c = tracks_count
