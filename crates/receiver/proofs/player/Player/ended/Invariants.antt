use Rattle.std.proofs.Common.{◌≡◌, ◌<◌, ℕ, length, slice_index, ◌&&◌, ◌||◌, not}
use Rattle.mt_base.specs.Midi.{view_what}
use Rattle.midi_model.specs.Sysex.{doing}
use Rattle.receiver.specs.Notes.{has}
use Rattle.receiver.specs.Turns.{strikes}
use Rattle.receiver.proofs.player.Player.ended.Given as goal

abbrev pub invariant-loop-channel : goal.invariant-loop-channel
invariant-loop-channel l = record {
  length : length l.keys ≡ 16;
  keys : (c k : ℕ) → c < l.channel → k < 128
      → has (slice_index l.keys c) k ≡ (has (slice_index l.before c) k && (strikes (doing (view_what l.what)) c k || not (has (slice_index l.now c) k)));
}
