use Rattle.std.proofs.Common.{sym, ◌∙◌}
use Rattle.mt_base.specs.Midi.{view_what}
use Rattle.mpe_route.specs.Kept.{begun_in}
use Rattle.mpe_route.proofs.Unbent.{still_begun}
use Rattle.mpe_route.proofs.kept.Kept.take.Goals as goal

pub returns-then-resets-clause-begun : goal.returns-then-resets-clause-begun
returns-then-resets-clause-begun c =
    c.unbend.ensures.begun
    ∙ still_begun (begun_in c.args.self.now) c.args.port (view_what c.args.what.now) (sym c.is_message.ensures ∙ c.if-is_message.false)

pub returns-else-resets-clause-begun : goal.returns-else-resets-clause-begun
returns-else-resets-clause-begun c =
    still_begun (begun_in c.args.self.now) c.args.port (view_what c.args.what.now) (sym c.is_message.ensures ∙ c.if-is_message.false)
