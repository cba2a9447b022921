use Rattle.std.proofs.Common.{◌≡◌, ◌++◌, Option, Some, None, sym, ap, subst, ◌∙◌}
use Rattle.std.specs.Prelude.{IfSome, option_copied}
use Rattle.std.proofs.lemmas.List.{append-nil}
use Rattle.key_pitch.specs.Aims.{by_onset}
use Rattle.key_report.specs.Targets.{IsDevice}
use Rattle.lifetimes.specs.Views.{options_of}
use Rattle.audit_report.specs.declared.audit.Audit.{Audit}
use Rattle.audit_report.specs.Texts.{audit_lines}
use Rattle.mtune_core.specs.Survey.{IsOfFew}
use Rattle.mtune_core.proofs.Retuned.{of_device}
use Rattle.mtune_core.proofs.Said.{few_played, no_other, none_said, played_said}
use Rattle.mtune_core.proofs.reporting.push_played.Goals as goal

pub push_audit-requires-clause-device : goal.push_audit-requires-clause-device
push_audit-requires-clause-device c =
    let range = c.requires.range in
    subst IsDevice (sym c.bend_range.ensures) (of_device (options_of c.args.options) range.range_some range.range_high)

pub push_audit-requires-clause-few : goal.push_audit-requires-clause-few
push_audit-requires-clause-few c =
    let o = options_of c.args.options in
    let is : option_copied c.args.audit ≡ Some c.in-Some.audit.now = ap option_copied c.in-Some.is in
    few_played o c.in-Some.audit.now c.notes.result.now (c.notes.ensures o) (subst (λ (x : Option Audit). IfSome x (IsOfFew o)) is c.requires.few)

pub returns-in_ok-push_audit : goal.returns-in_ok-push_audit
returns-in_ok-push_audit c = λ asked es h.
    let o = options_of c.args.options in
    let t = by_onset c.args.table.now in
    let plan = option_copied c.args.plan in
    let notes = c.notes.result.now in
    let is : option_copied c.args.audit ≡ Some c.in-Some.audit.now = ap option_copied c.in-Some.is in
    c.in_ok-push_audit.ensures.text
    ∙ ap (λ l. c.args.text.now.items ++ l) (ap (λ r. audit_lines r t plan notes) c.bend_range.ensures
    ∙ played_said asked o t plan es (option_copied c.args.audit) c.in-Some.audit.now notes is h (c.notes.ensures o es))

pub returns-in_default : goal.returns-in_default
returns-in_default c = λ asked es h.
    let none : option_copied c.args.audit ≡ None = ap option_copied (no_other c.args.audit c.in_default.not-Some) in
    sym (append-nil c.args.text.now.items)
    ∙ ap (λ l. c.args.text.now.items ++ l)
    (none_said asked (options_of c.args.options) (by_onset c.args.table.now) (option_copied c.args.plan) es (option_copied c.args.audit) none h)
