use Rattle.std.proofs.Common.{sym, ◌∙◌}
use Rattle.mt_base.specs.Midi.{view_what}
use Rattle.octave_route.proofs.Passing.{still_begun}
use Rattle.octave_route.proofs.translating.take.Goals as goal

pub returns-else-is_message : goal.returns-else-is_message
returns-else-is_message c = still_begun c.args.begun.now c.args.port (view_what c.args.what.now) (sym c.is_message.ensures ∙ c.if-is_message.false)
