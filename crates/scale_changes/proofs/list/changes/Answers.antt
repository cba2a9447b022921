use Rattle.std.proofs.Common.{◌≡◌, ◌<◌, ◌-◌, ◌+◌, ◌∷◌, [], length, map, sym, ap, ◌∙◌, arith, length-append}
use Rattle.scala_lines.specs.Lines.{entry_lines}
use Rattle.scala_lines.specs.Remaining.{view, remaining}
use Rattle.scale_changes.specs.Answers.{change_as_told}
use Rattle.scale_changes.specs.Reading.{list_at}
use Rattle.scale_changes.proofs.Taken.{with_prefix, prefix_end, prefix_many, prefix_fault, prefix_more, told_more}
use Rattle.scale_changes.proofs.list.changes.Goals as goal

pub returns-then-len-eq16 : goal.returns-then-len-eq16
returns-then-len-eq16 c = let l = c.lines in
    let many : 16 - length l.changes.items ≡ 0 = omega (arith, c.if-len-eq16.true, c.len.ensures, l.changes.ok) in
    sym l.invariant.told ∙ prefix_many (map change_as_told l.changes.items) (16 - length l.changes.items) l.last
    (entry_lines (remaining l.lines)) (entry_lines (remaining c.next_entry.new.self)) (view c.in-Some.line) many c.in-Some.ensures.some

pub returns-in-Err : goal.returns-in-Err
returns-in-Err c = let l = c.lines in
    sym l.invariant.told ∙ prefix_fault (map change_as_told l.changes.items) (16 - length l.changes.items) l.last
    (entry_lines (remaining l.lines)) (entry_lines (remaining c.next_entry.new.self)) (view c.in-Some.line) c.in-Err.kind
    (omega (arith, c.if-len-eq16.false, c.len.ensures, l.changes.ok, l.invariant.few)) c.in-Some.ensures.some c.in-Err.ensures.fault

pub lines-preserved : goal.lines-preserved
lines-preserved c = let l = c.lines in
    let more = c.in_ok-push-in-Ok.ensures.items in
    let n : length c.push.new.self.items ≡ length l.changes.items + 1 = ap length more ∙ length-append l.changes.items (c.in-Ok.change ∷ []) in
    let some : length l.changes.items < 16 = omega (arith, c.if-len-eq16.false, c.len.ensures, l.changes.ok, l.invariant.few) in
    let room : 16 - length l.changes.items ≡ (16 - length c.push.new.self.items) + 1 = omega (arith, n, some) in
    record {
      told =
          ap (λ r. with_prefix r (list_at (16 - length c.push.new.self.items) c.in-Ok.change.0 (entry_lines (remaining c.next_entry.new.self))))
          (ap (λ cs. map change_as_told cs) more ∙ told_more l.changes.items c.in-Ok.change)
          ∙ sym (prefix_more (map change_as_told l.changes.items) (16 - length l.changes.items) (16 - length c.push.new.self.items) l.last
          (entry_lines (remaining l.lines)) (entry_lines (remaining c.next_entry.new.self)) (view c.in-Some.line) (change_as_told c.in-Ok.change) room c.in-Some.ensures.some c.in-Ok.ensures.found)
          ∙ l.invariant.told;
      few = omega (arith, n, some);
    }

pub returns : goal.returns
returns c = let l = c.lines in
    sym l.invariant.told ∙ prefix_end (map change_as_told l.changes.items) (16 - length l.changes.items) l.last (entry_lines (remaining l.lines)) c.in_default.ensures.none
