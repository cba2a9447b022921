use Rattle.std.proofs.Common.{◌≡◌, [], replicate}
use Rattle.midi_model.specs.Writing.{written}
use Rattle.event_stream.proofs.tracks.TrackSet.new.Given as goal

abbrev pub invariant-loop : goal.invariant-loop
invariant-loop l = l.texts.items ≡ replicate l.counter (written [])
