use Rattle.std.proofs.Common.{slice_index, if◌then◌else◌, None, ap, ◌∙◌}
use Rattle.receiver.specs.Notes.{note_of}
use Rattle.receiver.specs.Heard.{heard_by}
use Rattle.receiver.proofs.Low.{zero_of}
use Rattle.receiver.proofs.Hearing.{has_all}
use Rattle.receiver.proofs.playing.Playing.reset.Goals as goal

pub invariant_of-self : goal.invariant_of-self
invariant_of-self c = record { calm = λ k below silent. ap (λ ks. slice_index ks k) c.new-self.ensures.keys ∙ zero_of 128 k }

pub returns-clause-heard : goal.returns-clause-heard
returns-clause-heard c = λ channel k below.
    let s = c.args.self.now in
    ap (heard_by channel k (slice_index c.new-self.result.keys.items k)) (c.end.ensures k below ∙ ap (λ b. if b then None else note_of s.keys k) (has_all k below))
