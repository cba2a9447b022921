use Rattle.std.proofs.Common.{◌≡◌, ◌<◌, ◌^◌, true, ℕ}
use Rattle.std.specs.Prelude.{map}
use Rattle.receiver.specs.Notes.{has}
use Rattle.audit_report.specs.Audit.{IsIndexed, marked}
use Rattle.audit_report.proofs.Marking.{keys_but}
use Rattle.audit_report.proofs.audit.Audit.end_keys.Given as goal

abbrev pub invariant-loop-rest : goal.invariant-loop-rest
invariant-loop-rest l = record {
  fits : l.rest < 2 ^ 128;
  within : (k : ℕ) → k < 128 → has l.rest k ≡ true → has l.keys k ≡ true;
  indexed : IsIndexed l.fn.self.last.items l.fn.self.notes.items → IsIndexed l.self.last.items l.self.notes.items;
  last : l.self.last ≡ l.fn.self.last;
  notes : IsIndexed l.fn.self.last.items l.fn.self.notes.items → l.self.notes.items ≡ map (marked l.port (keys_but
      (has l.keys) (has l.rest) l.channel) l.tick) l.fn.self.notes.items;
}

abbrev pub decreases-loop-rest : goal.decreases-loop-rest
decreases-loop-rest l = l.rest
