use Rattle.std.proofs.Common.{subst, sym}
use Rattle.std.specs.Prelude.{IfSome}
use Rattle.midi_model.specs.Merged.{merged}
use Rattle.key_pitch.specs.Aims.{by_onset}
use Rattle.command_line.specs.Words.{view_command}
use Rattle.mtune_core.specs.declared.outcome.Fault.TheVariants.{Memory}
use Rattle.mtune_core.specs.Asked.{allowed_by}
use Rattle.mtune_core.specs.Causes.{of_plan}
use Rattle.mtune_core.specs.Retuned.{EventCause}
use Rattle.mtune_core.specs.Survey.{IsUsed, IsAudited, IsOfFew}
use Rattle.mtune_core.proofs.ByPlan.{cause_of_plan, file_made}
use Rattle.mtune_core.proofs.Stages.{handed_on}
use Rattle.mtune_core.proofs.planned.make_by_plan.Goals as goal

pub returns-in_err-plan-clause-refused : goal.returns-in_err-plan-clause-refused
returns-in_err-plan-clause-refused c =
    let k = view_command c.args.command.now in
    handed_on c.from_residual.result (of_plan c.in_err-plan.field-0.0) _ c.from_residual.ensures.1
    (cause_of_plan c.in_err-plan.field-0.0 k.options (allowed_by k) (by_onset c.args.table.now) (merged c.args.smf.now) c.in_err-plan.ensures.refused)

-- an audit wants no more than memory
pub returns-in_err-audit-clause-refused : goal.returns-in_err-audit-clause-refused
returns-in_err-audit-clause-refused c =
    let k = view_command c.args.command.now in
    handed_on c.from_residual-in_err-audit.result Memory
    (EventCause k.options (allowed_by k) (by_onset c.args.table.now) (merged c.args.smf.now)) c.from_residual-in_err-audit.ensures.1 tt

pub planned_report-requires-clause-few : goal.planned_report-requires-clause-few
planned_report-requires-clause-few c =
    let k = view_command c.args.command.now in
    subst (λ x. IfSome x (λ a. IsOfFew k.options a)) (sym c.as_ref.ensures.value) c.in_ok-audit.ensures.few

pub returns-clause-made : goal.returns-clause-made
returns-clause-made c =
    let k = view_command c.args.command.now in
    let t = by_onset c.args.table.now in
    let es = merged c.args.smf.now in
    let used = subst (λ x. IsUsed k.options x c.count-used.result) c.new.ensures.all c.count-used.ensures.used in
    let audit = subst (λ x. IsAudited k.audit k.options es x) (sym c.as_ref.ensures.value) c.in_ok-audit.ensures.audited in
    file_made k.audit k.options (allowed_by k) t c.args.smf.now c.in_ok-plan.plan
    (record { output = c.in_ok-output.output; report = c.in_ok-report.report })
    c.requires.bends
    c.in_ok-plan.ensures.plan c.in_ok-plan.ensures.taken c.in_ok-output.ensures
    (c.in_ok-report.ensures k.audit (allowed_by k) es used audit c.in_ok-plan.ensures.plan)
