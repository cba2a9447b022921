use Rattle.std.proofs.Common.{◌≡◌}
use Rattle.std.specs.Prelude.{map}
use Rattle.audit_report.specs.Audit.{IsIndexed, channels_below, marked}
use Rattle.audit_report.proofs.audit.Audit.end_all.Given as goal

abbrev pub invariant-loop-channel : goal.invariant-loop-channel
invariant-loop-channel l = record {
  indexed : IsIndexed l.fn.self.last.items l.fn.self.notes.items → IsIndexed l.self.last.items l.self.notes.items;
  last : l.self.last ≡ l.fn.self.last;
  notes : IsIndexed l.fn.self.last.items l.fn.self.notes.items → l.self.notes.items ≡ map (marked l.port
      (channels_below l.ended.keys l.channel) l.tick) l.fn.self.notes.items;
}
