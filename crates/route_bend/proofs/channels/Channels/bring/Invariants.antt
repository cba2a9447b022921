use Rattle.std.proofs.Common.{◌≡◌, ◌++◌, ◌-◌, List, nat_lt}
use Rattle.mt_base.specs.Midi.{MidiEvent}
use Rattle.retune_model.specs.Dump.{from_up}
use Rattle.channel_model.specs.Choice.{wanted}
use Rattle.lifetimes.specs.Stands.{Stands, asked, table_in}
use Rattle.lifetimes.specs.Told.{music_on}
use Rattle.route_bend.specs.Sent.{brought}
use Rattle.route_bend.specs.Single.{RenewsSome}
use Rattle.route_bend.proofs.channels.Channels.bring.Given as goal

abbrev pub invariant-loop-number : goal.invariant-loop-number
invariant-loop-number g l = record {
  sent : (es : List MidiEvent) → Stands (g.T.Aims.table (table_in l.parts)) l.parts es
      → l.out.messages.items ++ brought (wanted (asked l.parts) (g.T.Aims.table (table_in l.parts)) (music_on l.fn.self.port es))
      l.fn.self l.part (from_up l.number (16 - l.number))
      ≡ l.fn.out.messages.items ++ brought (wanted (asked l.parts) (g.T.Aims.table (table_in l.parts)) (music_on l.fn.self.port es))
      l.fn.self l.part (from_up 0 16);
  states : (es : List MidiEvent) → Stands (g.T.Aims.table (table_in l.parts)) l.parts es
      → RenewsSome (λ c. nat_lt c l.number) (wanted (asked l.parts) (g.T.Aims.table (table_in l.parts)) (music_on l.fn.self.port es))
      l.part l.fn.self l.self;
}
