use Rattle.std.proofs.Common.{◌-◌, ◌+◌, ◌≡◌, ◌++◌, ◌∷◌, [], refl, sym, ◌∙◌, arith}
use Rattle.scala_lines.specs.Remaining.{view, remaining, missing}
use Rattle.scl_text.proofs.Entries.{prefix_missing, prefix_fault, prefix_more, prefix_end}
use Rattle.scl_text.proofs.reading.entries.Goals as goal

pub returns-in-Err : goal.returns-in-Err
returns-in-Err c = let l = c.pitches in
    sym l.invariant.told ∙ prefix_missing l.entries.items (missing l.lines) (c.args.count - l.counter) (remaining l.lines) (omega (arith, c.pitches-test.true)) c.in-Err.ensures.none
    ∙ rw c.in-Err.ensures.number refl

pub returns-in-Err-pitch : goal.returns-in-Err-pitch
returns-in-Err-pitch c = let l = c.pitches in
    sym l.invariant.told ∙ prefix_fault l.entries.items (missing l.lines) (c.args.count - l.counter) (remaining l.lines) (remaining c.next.new.self) (view c.in-Ok.line) c.in-Err-pitch.kind
    (omega (arith, c.pitches-test.true)) c.in-Ok.ensures.line (sym c.pitch.ensures ∙ c.in-Err-pitch.is)

pub pitches-preserved : goal.pitches-preserved
pitches-preserved c = let l = c.pitches in
    let more : c.push.new.self.items ≡ l.entries.items ++ c.in-Ok-pitch.entry ∷ [] = c.in_ok-push-in-Ok-pitch.ensures.items in record {
      told =
          rw (more, c.in-Ok.ensures.missing) (sym (prefix_more l.entries.items (missing l.lines) (c.args.count - l.counter) (c.args.count - (l.counter + 1)) (remaining l.lines) (remaining c.next.new.self) (view c.in-Ok.line) c.in-Ok-pitch.entry
          (omega (arith, c.pitches-test.true)) c.in-Ok.ensures.line (sym c.pitch.ensures ∙ c.in-Ok-pitch.is)) ∙ l.invariant.told);
      last = c.in-Ok.ensures.missing ∙ l.invariant.last;
    }

pub returns : goal.returns
returns c = let l = c.pitches in
    sym l.invariant.told ∙ prefix_end l.entries.items (missing l.lines) (c.args.count - l.counter) (remaining l.lines) (omega (arith, c.pitches-test.false))
