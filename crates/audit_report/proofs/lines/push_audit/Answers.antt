use Rattle.std.proofs.Common.{◌≡◌, ◌+◌, ◌++◌, suc, [], drop, refl, sym, ap, ◌∙◌, append-nil, arith}
use Rattle.std.specs.Prelude.{filter_map, fold, option_copied}
use Rattle.std.proofs.Math.ListN.{drop_of_length-le}
use Rattle.key_report.specs.Keys.{whole_error, with_error}
use Rattle.audit_report.specs.Audit.{note_at}
use Rattle.audit_report.specs.Texts.{audit_errors, audit_lines, lines_from, note_error}
use Rattle.audit_report.proofs.Joined.{joined_is, lines_more, put_is, whole_more}
use Rattle.audit_report.proofs.Indexed.{read_note}
use Rattle.audit_report.proofs.lines.push_audit.Goals as goal

pub loop-note-init : goal.loop-note-init
loop-note-init g c = record {
  number = refl;
  text = ap (λ b. c.args.out.now.items ++ lines_from c.args.range (g.T.Aims.table c.args.table.now) (option_copied c.args.plan) b 1 c.args.notes.now)
      c.names_ports-names_ports.ensures;
  whole = refl;
}

pub loop-note-preserved : goal.loop-note-preserved
loop-note-preserved g c =
    let same : c.note-item.result ≡ note_at c.args.notes.now c.loop-note.note-index =
    read_note c.args.notes.now c.loop-note.note-index c.note-item.result c.loop-note-test.true c.note-item.is in
    record {
      number = ap (λ n. n + 1) c.loop-note.invariant.number;
      text = lines_more c.args.range (g.T.Aims.table c.args.table.now) (option_copied c.args.plan) c.names_ports-names_ports.result c.args.notes.now
          c.loop-note.note-index (c.loop-note.note-index + 1) c.loop-note.out.items c.push_if.new.out.items
          (c.args.out.now.items ++ audit_lines c.args.range (g.T.Aims.table c.args.table.now) (option_copied c.args.plan) c.args.notes.now)
          c.loop-note-test.true (omega arith) c.loop-note.invariant.text
          (put_is c.args.range (g.T.Aims.table c.args.table.now) (option_copied c.args.plan) c.names_ports-names_ports.result c.note-item.result
          (note_at c.args.notes.now c.loop-note.note-index) c.loop-note.note-index (c.loop-note.number + 1) c.channel_told-channel.result
          c.note_error-error.result c.loop-note.out.items c.push_if.new.out.items
          (omega (arith, c.loop-note.invariant.number)) c.channel_told-channel.ensures c.note_error-error.ensures same c.in_ok-whole.ensures.text);
      whole = whole_more c.args.range (g.T.Aims.table c.args.table.now) c.args.notes.now c.loop-note.note-index (c.loop-note.note-index + 1)
          c.loop-note.whole c.in_ok-whole.whole (whole_error (audit_errors c.args.range (g.T.Aims.table c.args.table.now) c.args.notes.now))
          c.loop-note-test.true (omega arith) c.loop-note.invariant.whole
          (joined_is c.args.range (g.T.Aims.table c.args.table.now) c.note-item.result (note_at c.args.notes.now c.loop-note.note-index)
          c.note_error-error.result c.loop-note.whole c.in_ok-whole.whole c.note_error-error.ensures same c.in_ok-whole.ensures.whole);
    }

pub returns-clause-text : goal.returns-clause-text
returns-clause-text g c =
    let done : drop c.loop-note.note-index c.args.notes.now ≡ [] = drop_of_length-le c.args.notes.now c.loop-note-test.false in
    sym (append-nil c.loop-note.out.items)
    ∙ (ap (λ ps. c.loop-note.out.items ++ lines_from c.args.range (g.T.Aims.table c.args.table.now) (option_copied c.args.plan)
    c.names_ports-names_ports.result (suc c.loop-note.note-index) ps) (sym done) ∙ c.loop-note.invariant.text)

pub returns-clause-whole : goal.returns-clause-whole
returns-clause-whole g c =
    let done : drop c.loop-note.note-index c.args.notes.now ≡ [] = drop_of_length-le c.args.notes.now c.loop-note-test.false in
    ap (λ ps. fold with_error c.loop-note.whole (filter_map (note_error c.args.range (g.T.Aims.table c.args.table.now)) ps)) (sym done)
    ∙ c.loop-note.invariant.whole
