use Rattle.std.proofs.Common.{◌≡◌, ◌≤◌, ◌-◌, List, length, map, filter, take, drop, true, false}
use Rattle.std.specs.Set.{is_member}
use Rattle.mt_base.specs.Midi.{MidiEvent}
use Rattle.retune_model.specs.Options.{bends_notes}
use Rattle.retune_model.specs.Pairs.{Pair, is_same_pair}
use Rattle.lifetimes.specs.Views.{pair_of}
use Rattle.lifetimes.specs.Stands.{Stands, asked, table_in}
use Rattle.lifetimes.specs.Told.{is_held}
use Rattle.channel_plan.specs.Counts.{IsKept}
use Rattle.channel_plan.proofs.counter.keep.Given as goal

abbrev pub invariant-loop-next : goal.invariant-loop-next
invariant-loop-next g l = record {
  few : l.kept ≤ l.next;
  low : l.next ≤ length l.pairs.items;
  long : length l.pairs.items ≡ length l.fn.pairs.items;
  rest : drop l.next l.pairs.items ≡ drop l.next l.fn.pairs.items;
  kept : (es : List MidiEvent) → Stands (g.T.Aims.table (table_in l.fn.parts)) l.fn.parts es → bends_notes (asked l.fn.parts).route ≡ true
      → (l.fn.rests ≡ false → (p : Pair) → is_member is_same_pair (map pair_of l.fn.pairs.items) p ≡ true
      → IsKept l.fn.ended (is_held (asked l.fn.parts) (g.T.Aims.table (table_in l.fn.parts)) es) p)
      → map pair_of (take l.kept l.pairs.items)
      ≡ filter (is_held (asked l.fn.parts) (g.T.Aims.table (table_in l.fn.parts)) es) (map pair_of (take l.next l.fn.pairs.items));
}

abbrev pub decreases-loop-next : goal.decreases-loop-next
decreases-loop-next g l = length l.pairs.items - l.next
