use Rattle.std.proofs.Common.{◌≡◌, ◌+◌, ◌*◌, ◌<◌, ◌≤◌, List, ◌++◌, length, map, take, false}
use Rattle.mt_base.specs.Midi.{Timed}
use Rattle.midi_model.specs.Writing.{written}
use Rattle.mtune_files.specs.Sample.{at_tick}
use Rattle.mtune_files.proofs.chords.put_all.Given as goal

abbrev pub invariant-loop-message : goal.invariant-loop-message
invariant-loop-message l = record {
  stands : (es : List Timed) → l.fn.track ≡ written es → l.track ≡ written (es ++ map (at_tick l.tick) (take l.message-index l.messages));
  order : l.track.tick ≤ l.tick;
  near : l.tick < l.track.tick + 16384;
  last : 0 < l.message-index → l.track.tick ≡ l.tick;
  opened : l.track.ended ≡ false;
  short : length l.track.bytes ≤ length l.fn.track.bytes + 5 * l.message-index;
}
