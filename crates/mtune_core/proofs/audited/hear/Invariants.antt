use Rattle.std.proofs.Common.{◌≡◌, ◌<◌, ◌≤◌, ◌+◌, ◌++◌, List, length}
use Rattle.std.specs.List.{AllByRecursion}
use Rattle.mt_base.specs.Midi.{MidiEvent}
use Rattle.mt_base.specs.Valid.{IsValidEvent}
use Rattle.midi_model.specs.Order.{AreInOrder}
use Rattle.lifetimes.specs.Stands.{Stands, asked, table_in, position_of, tick_of}
use Rattle.audit_report.specs.Audit.{IsAudit}
use Rattle.mtune_core.proofs.audited.hear.Given as goal

abbrev pub invariant-events : goal.invariant-events
invariant-events g l = record {
  table : table_in l.parts ≡ table_in l.fn.parts;
  options : asked l.parts ≡ asked l.fn.parts;
  position : l.position ≡ position_of l.parts;
  few : l.position + length (g.S.EventStream.rest l.stream) ≤ 2097152;
  valid : AllByRecursion IsValidEvent (g.S.EventStream.rest l.stream);
  order : AreInOrder (tick_of l.parts) (g.S.EventStream.rest l.stream);
  tracks : AllByRecursion (λ e. e.track < 1024) (g.S.EventStream.rest l.stream);
  front : (seen : List MidiEvent) × (g.S.EventStream.all l.fn.stream ≡ seen ++ g.S.EventStream.rest l.stream)
      × Stands (g.T.Aims.table (table_in l.parts)) l.parts seen × IsAudit (asked l.parts) seen l.audit;
}

abbrev pub decreases-events : goal.decreases-events
decreases-events g l = length (g.S.EventStream.rest l.stream)
