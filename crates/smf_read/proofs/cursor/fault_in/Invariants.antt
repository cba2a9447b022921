use Rattle.std.proofs.Common.{◌≡◌, ◌<◌, ◌≤◌, ◌^◌, length}
use Rattle.midi_model.specs.Reading.{IsRunning, rest_of_track, track_in}
use Rattle.smf_read.proofs.cursor.fault_in.Given as goal

abbrev pub decreases-events : goal.decreases-events
decreases-events l = length l.rest

abbrev pub invariant-events : goal.invariant-events
invariant-events l = record {
  told : (rest_of_track l.running l.tick l.rest).fault ≡ (track_in l.fn.bytes).fault;
  status : IsRunning l.running;
  in_time : l.tick < 2 ^ 28;
  within : length l.rest ≤ length l.fn.bytes;
}
