use Rattle.replay.proofs.Putting.{puts_then}
use Rattle.replay.proofs.writing.put_all.Goals as goal

pub returns : goal.returns
returns g c =
    let holds = g.S.Sink.holds in
    puts_then holds _ _ _ _ _
    (puts_then holds _ _ _ _ _
    (puts_then holds _ _ _ _ _
    (puts_then holds _ _ _ _ _
    (puts_then holds _ _ _ _ _ c.put_voice.ensures c.put_controllers_left.ensures)
    c.put_params.ensures)
    c.put_pressure.ensures)
    c.put_bend.ensures)
    c.put_differences.ensures
