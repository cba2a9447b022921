use Rattle.std.proofs.Common.{◌≡◌, ◌+◌, ◌-◌, ◌*◌, ◌≤◌, length, false}
use Rattle.std.specs.List.{flat_map, range_with_len}
use Rattle.midi_model.specs.Writing.{written}
use Rattle.mtune_files.specs.Sample.{events_at}
use Rattle.mtune_files.proofs.chords.track_of.Given as goal

abbrev pub invariant-loop-step : goal.invariant-loop-step
invariant-loop-step l = record {
  stands : l.track ≡ written (flat_map (events_at l.chords) (range_with_len 0 l.step));
  order : l.track.tick ≤ 240 * (l.step - 1);
  near : 240 * l.step ≤ l.track.tick + 480;
  opened : l.track.ended ≡ false;
  short : length l.track.bytes ≤ 40 * l.step;
}
