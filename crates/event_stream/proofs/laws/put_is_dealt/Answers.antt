use Rattle.std.proofs.Common.{◌<◌, length, map, refl, arith}
use Rattle.std.proofs.lemmas.List.{length-map}
use Rattle.midi_model.specs.Writing.{written}
use Rattle.event_stream.specs.Distributed.{distributed}
use Rattle.event_stream.proofs.Dealing.{length_dealt}
use Rattle.event_stream.proofs.Putting.{put_last}
use Rattle.event_stream.proofs.laws.put_is_dealt.Goals as goal

pub returns : goal.returns
returns c tracks es e low =
    let there : e.track < length (map written (distributed tracks es)) = omega (arith, low, length-map (distributed tracks es) written, length_dealt 0 tracks es) in
    put_last c.writing_laws.ensures.appended tracks es e (map written (distributed tracks es)) refl there
