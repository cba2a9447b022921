use Rattle.std.proofs.Common.{◌++◌, ℕ, List, [], None, ap, sym, ◌∙◌}
use Rattle.std.proofs.lemmas.List.{append-nil}
use Rattle.key_pitch.specs.Aims.{by_onset, table_of}
use Rattle.key_report.specs.Keys.{is_used, key_errors}
use Rattle.key_report.specs.Texts.{key_lines, error_line}
use Rattle.lifetimes.specs.Views.{route_of, options_of}
use Rattle.plan_report.specs.Texts.{channels_line}
use Rattle.mtune_core.specs.Lines.{route_line, notes_line}
use Rattle.mtune_core.specs.Report.{audit_told, bend_range, uses_key}
use Rattle.mtune_core.proofs.Fit.{of_plain}
use Rattle.mtune_core.proofs.Said.{behind, is_report, plain_channels, no_needs}
use Rattle.mtune_core.proofs.reporting.report.Goals as goal

pub push_front-requires-clause-range : goal.push_front-requires-clause-range
push_front-requires-clause-range c = of_plain (options_of c.args.options) c.requires.plain

pub returns : goal.returns
returns c = λ asked es found audited.
    let o = options_of c.args.options in
    let t = by_onset c.args.table.now in
    let used = c.args.found.now.used in
    let route = c.requires.plain.route in
    let seen = key_errors (bend_range o) (table_of c.args.table.now) (is_used used.keys) in
    let front : List ℕ → List ℕ = λ l. l ++ route_line (route_of c.args.options.route) ++ key_lines seen ++ audit_told asked o t None es
    ++ notes_line used.notes in
    let channels = c.channels.result in
    behind c.new-text.result.items front (channels_line channels) [] (error_line c.in_ok-whole.whole)
    c.push_front.new.text.items c.push_one.new.text.items c.push_one.new.text.items c.push_whole.new.text.items
    c.new-text.ensures.items (c.in_ok-whole.ensures.text asked es audited) c.in_ok-push_one.ensures
    (sym (append-nil c.push_one.new.text.items)) c.in_ok-push_whole.ensures
    ∙ ap (λ w. front [] ++ channels_line channels ++ [] ++ error_line w) c.in_ok-whole.ensures.whole
    ∙ is_report asked o t None es seen used.notes channels []
    (c.key_laws.ensures.same (bend_range o) (table_of c.args.table.now) (is_used used.keys) (λ key. uses_key o key es) found.used.keys)
    found.used.notes (c.channels.ensures o es found.noted ∙ sym (plain_channels o t es route)) (no_needs o t es route)
