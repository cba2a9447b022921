use Rattle.std.proofs.Common.{List, nat_lt}
use Rattle.mt_base.specs.Midi.{MidiEvent}
use Rattle.lifetimes.specs.Stands.{Stands, asked, table_in}
use Rattle.lifetimes.specs.Told.{is_held}
use Rattle.route_bend.specs.Single.{LeavesSome}
use Rattle.route_bend.proofs.channels.Channels.leave.Given as goal

abbrev pub invariant-loop-number : goal.invariant-loop-number
invariant-loop-number g l = (es : List MidiEvent) → Stands (g.T.Aims.table (table_in l.parts)) l.parts es
    → LeavesSome (λ c. nat_lt c l.number) (is_held (asked l.parts) (g.T.Aims.table (table_in l.parts)) es) l.part l.fn.self l.self
