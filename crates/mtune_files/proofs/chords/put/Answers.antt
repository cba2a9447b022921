use Rattle.std.proofs.Common.{◌+◌, ◌-◌, ◌≤◌, length, arith, subst, sym}
use Rattle.std.proofs.lemmas.Result.{on_ok_weaker}
use Rattle.midi_model.specs.Writing.{Written}
use Rattle.mtune_files.proofs.Sampled.{message_most}
use Rattle.mtune_files.proofs.chords.put.Goals as goal

pub returns-clause-grows : goal.returns-clause-grows
returns-clause-grows c =
    let before = c.args.track.now in
    let P : Written → Type 0 = λ w. length w.bytes ≤ length before.bytes + 5 in
    let most = message_most before.bytes (c.args.tick - before.tick) before.running c.args.message (omega arith) in
    on_ok_weaker c.put.result (λ is. subst P (sym is) most) c.put.ensures.appended
