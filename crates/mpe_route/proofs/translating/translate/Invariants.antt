use Rattle.std.proofs.Common.{◌≡◌, ◌<◌, ◌≤◌, length, take, drop}
use Rattle.std.specs.List.{AllByRecursion}
use Rattle.mt_base.specs.Valid.{IsValidEvent}
use Rattle.midi_model.specs.Order.{AreInOrder}
use Rattle.lifetimes.specs.Stands.{Stands, asked, table_in, position_of, tick_of}
use Rattle.mpe_route.specs.Laws.{IsZonable}
use Rattle.mpe_route.proofs.Kit.{Kit}
use Rattle.mpe_route.proofs.Passing.{Passing}
use Rattle.mpe_route.proofs.translating.translate.Given as goal

abbrev pub invariant-events : goal.invariant-events
invariant-events g l = record {
  all : g.S.EventStream.all l.stream ≡ g.S.EventStream.all l.fn.stream;
  table : table_in l.parts ≡ table_in l.fn.parts;
  options : asked l.parts ≡ asked l.fn.parts;
  at : position_of l.parts ≡ l.position;
  low : l.position ≤ length (g.S.EventStream.all l.fn.stream);
  rest : g.S.EventStream.rest l.stream ≡ drop l.position (g.S.EventStream.all l.fn.stream);
  order : AreInOrder (tick_of l.parts) (g.S.EventStream.rest l.stream);
  valid : AllByRecursion IsValidEvent (g.S.EventStream.rest l.stream);
  tracks : AllByRecursion (λ e. e.track < 1024) (g.S.EventStream.rest l.stream);
  stands : Stands (g.T.Aims.table (table_in l.parts)) l.parts (take l.position (g.S.EventStream.all l.fn.stream));
  kit : Kit;
  zonable : IsZonable (asked l.fn.parts) (g.T.Aims.table (table_in l.fn.parts)) (g.S.EventStream.all l.fn.stream) l.plan;
  passing : Passing (asked l.fn.parts) (g.T.Aims.table (table_in l.fn.parts)) (g.S.EventStream.all l.fn.stream) l.plan l.position
      (g.S.EventStream.rest l.stream) l.kept l.fn.out l.out;
}

abbrev pub decreases-events : goal.decreases-events
decreases-events g l = length (g.S.EventStream.rest l.stream)
