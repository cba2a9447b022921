use Rattle.std.proofs.Common.{◌≡◌, ◌≤◌, ◌+◌, ◌-◌, ◌*◌, List}
use Rattle.mt_base.specs.Midi.{MidiEvent}
use Rattle.retune_model.specs.Options.{Options}
use Rattle.lifetimes.specs.Noted.{IsNoted}
use Rattle.mtune_core.specs.Report.{channels_from, channels_of}
use Rattle.mtune_core.proofs.reporting.channels.Given as goal

abbrev pub invariant-loop-port : goal.invariant-loop-port
invariant-loop-port l = record {
  few : l.count ≤ 16 * l.port;
  left : (o : Options) (es : List MidiEvent) → IsNoted o es l.noted → l.count + channels_from o es l.port (256 - l.port) ≡ channels_of o es;
}
