use Rattle.std.proofs.Common.{◌≡◌, List, ◌++◌, length, map}
use Rattle.mt_base.specs.Midi.{MidiEvent}
use Rattle.midi_model.specs.Writing.{written}
use Rattle.event_stream.specs.Distributed.{distributed}
use Rattle.event_stream.proofs.tests.put_all.Given as goal

abbrev pub invariant-loop-event : goal.invariant-loop-event
invariant-loop-event g l = (done : List MidiEvent) × (g.S.EventStream.all l.fn.stream ≡ done ++ g.S.EventStream.rest l.stream) × (l.set ≡ map written (distributed (length l.fn.set) done))

abbrev pub decreases-loop-event : goal.decreases-loop-event
decreases-loop-event g l = length (g.S.EventStream.rest l.stream)
