use Rattle.std.proofs.Common.{◌≡◌, ◌++◌, List, length}
use Rattle.std.specs.List.{AllByRecursion}
use Rattle.mt_base.specs.Midi.{MidiEvent}
use Rattle.mt_base.specs.Valid.{IsValidEvent}
use Rattle.lifetimes.specs.Views.{options_of}
use Rattle.mtune_core.specs.Survey.{IsUsed}
use Rattle.mtune_core.proofs.counting.count.Given as goal

abbrev pub invariant-events : goal.invariant-events
invariant-events g l = record {
  all : g.S.EventStream.all l.stream ≡ g.S.EventStream.all l.fn.stream;
  valid : AllByRecursion IsValidEvent (g.S.EventStream.rest l.stream);
  front : (seen : List MidiEvent) × (g.S.EventStream.all l.fn.stream ≡ seen ++ g.S.EventStream.rest l.stream)
      × IsUsed (options_of l.options) seen l.used;
}

abbrev pub decreases-events : goal.decreases-events
decreases-events g l = length (g.S.EventStream.rest l.stream)
