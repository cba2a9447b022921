use Rattle.std.proofs.Common.{subst, sym}
use Rattle.key_pitch.specs.Aims.{by_onset}
use Rattle.command_line.specs.Words.{view_command}
use Rattle.midi_model.specs.Merged.{merged}
use Rattle.mtune_core.specs.Asked.{allowed_by}
use Rattle.mtune_core.specs.Survey.{IsAudited}
use Rattle.mtune_core.proofs.ByPlan.{plain_made}
use Rattle.mtune_core.proofs.Fit.{of_plain}
use Rattle.mtune_core.proofs.Stages.{handed_on}
use Rattle.mtune_core.proofs.plain.make_plainly.Goals as goal

pub returns-in_err-found-clause-refused : goal.returns-in_err-found-clause-refused
returns-in_err-found-clause-refused c = handed_on c.from_residual.result c.in_err-found.field-0.0 _ c.from_residual.ensures.1
    (c.in_err-found.ensures.refused (allowed_by (view_command c.args.command.now)))

pub audited-requires-clause-range : goal.audited-requires-clause-range
audited-requires-clause-range c = of_plain (view_command c.args.command.now).options c.requires.plain

pub returns-clause-made : goal.returns-clause-made
returns-clause-made c =
    let k = view_command c.args.command.now in
    let es = merged c.args.smf.now in
    let audit = subst (λ x. IsAudited k.audit k.options es x) (sym c.as_ref.ensures.value) c.in_ok-audit.ensures.audited in
    plain_made k.audit k.options (allowed_by k) (by_onset c.args.table.now) c.args.smf.now
    (record { output = c.in_ok-output.output; report = c.in_ok-report.report }) c.requires.plain.route c.in_ok-found.ensures.faultless
    c.in_ok-output.ensures
    (c.in_ok-report.ensures k.audit es c.in_ok-found.ensures.found audit)
