use Rattle.std.proofs.Common.{◌<◌, ◌^◌, length, take}
use Rattle.std.specs.Prelude.{All}
use Rattle.midi_model.specs.Writing.{Written}
use Rattle.route_bend.proofs.tests.are_short.Given as goal

abbrev pub invariant-loop-track : goal.invariant-loop-track
invariant-loop-track l = All (λ (t : Written). length t.bytes < 2 ^ 32) (take l.track-index l.tracks.items)
