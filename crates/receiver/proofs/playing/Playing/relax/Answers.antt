use Rattle.std.proofs.Common.{slice_index, if◌then◌else◌, ap, ◌∙◌}
use Rattle.receiver.specs.Notes.{note_of}
use Rattle.receiver.specs.Heard.{heard_by}
use Rattle.receiver.proofs.Hearing.{has_all, pressing}
use Rattle.receiver.proofs.playing.Playing.relax.Goals as goal

pub returns-clause-heard : goal.returns-clause-heard
returns-clause-heard c = λ channel k below.
    let s = c.args.self.now in
    let zero = c.relax.ensures.keys k below ∙ ap (λ b. if b then 0 else slice_index s.state.keys.items k) (has_all k below) in
    ap (λ p. heard_by channel k p (note_of s.keys k)) zero ∙ pressing channel k 0 (slice_index s.state.keys.items k) (note_of s.keys k)
