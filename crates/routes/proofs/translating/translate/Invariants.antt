use Rattle.std.proofs.Common.{◌≡◌, ◌<◌, length}
use Rattle.std.specs.List.{AllByRecursion}
use Rattle.mt_base.specs.Valid.{IsValidEvent}
use Rattle.lifetimes.specs.Stands.{asked, table_in}
use Rattle.lifetimes.specs.Tracks.{TracksStand}
use Rattle.routes.proofs.Passing.{Passing}
use Rattle.routes.proofs.translating.translate.Given as goal

abbrev pub invariant-events : goal.invariant-events
invariant-events g l = record {
  all : g.S.EventStream.all l.stream ≡ g.S.EventStream.all l.fn.stream;
  valid : AllByRecursion IsValidEvent (g.S.EventStream.rest l.stream);
  tracks : AllByRecursion (λ e. e.track < 1024) (g.S.EventStream.rest l.stream);
  passing : Passing (TracksStand l.tracks) (asked l.fn.parts) (g.T.Aims.table (table_in l.fn.parts))
      (g.S.EventStream.all l.fn.stream) (g.S.EventStream.rest l.stream) l.kept l.fn.out l.out;
}

abbrev pub decreases-events : goal.decreases-events
decreases-events g l = length (g.S.EventStream.rest l.stream)
