use Rattle.std.proofs.Common.{◌∙◌, sym, ap, rules}
use Rattle.retune_model.specs.Options.{is_drum_message}
use Rattle.channel_plan.proofs.Surveyed.{drums_marked, drums_left}
use Rattle.channel_plan.proofs.survey.mark_drums.Goals as goal

pub returns-then-is_drum_message : goal.returns-then-is_drum_message
returns-then-is_drum_message c es e what port drums z low =
    drums_marked c.next_laws.ensures.events es e z c.args.drums.now c.args.port
    (ap is_drum_message what ∙ sym c.is_drum_message.ensures ∙ c.if-is_drum_message.true) port (search rules) (drums z low)

pub returns-else-is_drum_message : goal.returns-else-is_drum_message
returns-else-is_drum_message c es e what port drums z low =
    drums z low ∙ drums_left c.next_laws.ensures.events es e z (ap is_drum_message what ∙ sym c.is_drum_message.ensures ∙ c.if-is_drum_message.false)
