use Rattle.std.proofs.Common.{◌≡◌, ◌++◌, suc, drop}
use Rattle.std.specs.Prelude.{filter_map, fold, option_copied}
use Rattle.key_report.specs.Keys.{whole_error, with_error}
use Rattle.audit_report.specs.Texts.{audit_errors, audit_lines, lines_from, note_error}
use Rattle.audit_report.proofs.lines.push_audit.Given as goal

abbrev pub invariant-loop-note : goal.invariant-loop-note
invariant-loop-note g l = record {
  number : l.number ≡ l.note-index;
  text : l.out.items ++ lines_from l.range (g.T.Aims.table l.table) (option_copied l.plan) l.names_ports (suc l.note-index)
      (drop l.note-index l.notes)
      ≡ l.fn.out.items ++ audit_lines l.range (g.T.Aims.table l.table) (option_copied l.plan) l.notes;
  whole : fold with_error l.whole (filter_map (note_error l.range (g.T.Aims.table l.table)) (drop l.note-index l.notes))
      ≡ whole_error (audit_errors l.range (g.T.Aims.table l.table) l.notes);
}
