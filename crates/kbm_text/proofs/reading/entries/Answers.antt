use Rattle.std.proofs.Common.{◌-◌, ◌+◌, ◌≡◌, ◌++◌, ◌∷◌, [], sym, ap, ◌∙◌, arith}
use Rattle.scala_lines.specs.Lines.{entry_lines}
use Rattle.scala_lines.specs.Remaining.{view, remaining}
use Rattle.kbm_text.specs.Reading.{entries_at}
use Rattle.kbm_text.proofs.Entries.{with_prefix, prefix_missing, prefix_fault, prefix_more, prefix_end}
use Rattle.kbm_text.proofs.reading.entries.Goals as goal
use Rattle.kbm_text.proofs.reading.entries.Goals.{in-None, in-Some+in-Ok}

pub returns-in-Err : goal.returns-in-Err
returns-in-Err c = let l = c.entries in
    sym l.invariant ∙ prefix_fault l.entries.items (c.args.size - l.counter) (entry_lines (remaining l.lines)) (entry_lines (remaining c.next_entry.new.self)) (view c.in-Some.line) c.in-Err.kind
    (omega (arith, c.entries-test.true)) c.in-Some.ensures.some (sym c.entry.ensures ∙ c.in-Err.is)

pub entries-preserved : goal.entries-preserved
entries-preserved c = let l = c.entries in
    let lines = entry_lines (remaining l.lines) in
    let rest = entry_lines (remaining c.next_entry.new.self) in
    let n = c.args.size - l.counter in
    let m = c.args.size - (l.counter + 1) in
    let more : c.push.new.self.items ≡ l.entries.items ++ c.match-next_entry.found ∷ [] = c.in_ok-push.ensures.items in
    let is : n ≡ m + 1 = omega (arith, c.entries-test.true) in
    let step : with_prefix l.entries.items (entries_at n lines) ≡ with_prefix (l.entries.items ++ c.match-next_entry.found ∷ []) (entries_at m rest) =
    (elim c.match-next_entry.branch [
      | in-None w ↦ rw w.found-is (prefix_missing l.entries.items n m lines rest is w.in-None.ensures.none w.in-None.ensures.ended)
      | in-Some+in-Ok w ↦ rw w.found-is (prefix_more l.entries.items n m lines rest (view w.in-Some.line) w.in-Ok.found is w.in-Some.ensures.some (sym w.entry.ensures ∙ w.in-Ok.is))
    ]) in
    ap (λ r. with_prefix r (entries_at m rest)) more ∙ sym step ∙ l.invariant

pub returns : goal.returns
returns c = let l = c.entries in
    sym l.invariant ∙ prefix_end l.entries.items (c.args.size - l.counter) (entry_lines (remaining l.lines)) (omega (arith, c.entries-test.false))
