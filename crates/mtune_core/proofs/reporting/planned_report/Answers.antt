use Rattle.std.proofs.Common.{◌++◌, ℕ, List, [], Some, refl, ap, sym, ◌∙◌}
use Rattle.key_pitch.specs.Aims.{by_onset, table_of}
use Rattle.key_report.specs.Keys.{is_used, key_errors}
use Rattle.key_report.specs.Texts.{key_lines, error_line}
use Rattle.lifetimes.specs.Views.{route_of, options_of}
use Rattle.plan_report.specs.Texts.{channels_line}
use Rattle.plan_report.specs.Told.{channels_told}
use Rattle.mtune_core.specs.Lines.{route_line, notes_line}
use Rattle.mtune_core.specs.Report.{audit_told, bend_range, needs_told, uses_key}
use Rattle.mtune_core.proofs.Said.{behind, is_report, planned_channels}
use Rattle.mtune_core.proofs.reporting.planned_report.Goals as goal

pub returns : goal.returns
returns c = λ asked allowed es used audited is.
    let o = options_of c.args.options in
    let t = by_onset c.args.table.now in
    let found = c.args.used in
    let plan = c.args.plan.now in
    let seen = key_errors (bend_range o) (table_of c.args.table.now) (is_used found.keys) in
    let front : List ℕ → List ℕ = λ l. l ++ route_line (route_of c.args.options.route) ++ key_lines seen ++ audit_told asked o t (Some plan) es
    ++ notes_line found.notes in
    let channels = channels_told plan in
    let needs = needs_told o.route o t es in
    behind c.new-text.result.items front (channels_line channels) needs (error_line c.in_ok-whole.whole)
    c.push_front.new.text.items c.push_channels.new.out.items c.push_needs.new.text.items c.push_whole.new.text.items
    c.new-text.ensures.items (c.in_ok-whole.ensures.text asked es audited) c.in_ok-push_channels.ensures.text
    (c.in_ok-push_needs.ensures o allowed t es refl is) c.in_ok-push_whole.ensures
    ∙ ap (λ w. front [] ++ channels_line channels ++ needs ++ error_line w) c.in_ok-whole.ensures.whole
    ∙ is_report asked o t (Some plan) es seen found.notes channels needs
    (c.key_laws.ensures.same (bend_range o) (table_of c.args.table.now) (is_used found.keys) (λ key. uses_key o key es) used.keys) used.notes
    ((c.plan_report_laws.ensures.reported o allowed t es plan is).channels ∙ sym (planned_channels o t es c.requires.bends)) refl
