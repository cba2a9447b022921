use Rattle.std.proofs.Common.{if◌then◌else◌, None, ap, ◌∙◌}
use Rattle.receiver.specs.Heard.{heard}
use Rattle.receiver.proofs.Hearing.{has_all}
use Rattle.receiver.proofs.playing.Playing.silence.Goals as goal

pub returns-clause-heard : goal.returns-clause-heard
returns-clause-heard c = λ channel k below.
    c.end.ensures.heard channel k below ∙ ap (λ b. if b then None else heard channel c.args.self.now k) (has_all k below)
