use Rattle.std.proofs.Common.{◌++◌, ap, sym, ◌∙◌, append-nil}
use Rattle.key_pitch.specs.Aims.{table_of}
use Rattle.key_report.specs.Keys.{is_used, whole_error}
use Rattle.key_report.specs.Texts.{key_lines}
use Rattle.key_report.proofs.Below.{none_below, lines_more, whole_more}
use Rattle.key_report.proofs.keys.push_keys.Goals as goal

pub loop-key-init : goal.loop-key-init
loop-key-init c =
    let none = none_below c.args.range (table_of c.args.table.now) (is_used c.args.keys) in
    record {
      text = sym (ap (λ es. c.args.out.now.items ++ key_lines es) none ∙ append-nil c.args.out.now.items);
      whole = sym (ap whole_error none);
    }

pub loop-key-preserved : goal.loop-key-preserved
loop-key-preserved c = record {
  text = lines_more c.args.range (table_of c.args.table.now) (is_used c.args.keys) c.loop-key.key c.used_error-error.result c.args.out.now.items
      c.loop-key.out.items c.push_if.new.out.items
      c.used_error-error.ensures.error c.loop-key.invariant.text c.in_ok-whole.ensures.text;
  whole = whole_more c.args.range (table_of c.args.table.now) (is_used c.args.keys) c.loop-key.key c.used_error-error.result c.loop-key.whole c.in_ok-whole.whole
      c.used_error-error.ensures.error c.loop-key.invariant.whole c.in_ok-whole.ensures.whole;
}
