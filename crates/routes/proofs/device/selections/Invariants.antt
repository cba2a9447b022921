use Rattle.std.proofs.Common.{◌≡◌, ◌≤◌, ◌++◌, ◌-◌, ◌*◌, length, filter}
use Rattle.receiver.specs.Notes.{has}
use Rattle.retune_model.specs.Dump.{from_up}
use Rattle.routes.specs.Device.{selections, channels_in}
use Rattle.routes.proofs.device.selections.Given as goal

abbrev pub invariant-loop-number : goal.invariant-loop-number
invariant-loop-number l = record {
  pushed : l.out.items ++ selections l.program (filter (has l.channels) (from_up l.number (16 - l.number)))
      ≡ selections l.program (channels_in l.channels);
  room : length l.out.items ≤ 5 * l.number;
}
