-- Where notes don't rest, a pair stays at an event that ends no note of its channel.
use Rattle.std.specs.Prelude.{◌≡◌, ◌++◌, List, [], ◌∷◌, true, length, slice_index}
use Rattle.std.specs.List.{AllByRecursion}
use Rattle.std.specs.Set.{is_member}
use Rattle.mt_base.specs.Midi.{MidiEvent}
use Rattle.mt_base.specs.Valid.{IsValidEvent}
use Rattle.midi_model.specs.Order.{AreInOrder}
use Rattle.retune_model.specs.Options.{Options}
use Rattle.retune_model.specs.Faults.{Targets, is_part}
use Rattle.retune_model.specs.Pairs.{Pair, is_same_pair}
use Rattle.retune_model.specs.PortNeed.{pairs_on}
use Rattle.receiver.specs.declared.ends.Ends.{Ends}
use Rattle.lifetimes.specs.Told.{port_on, is_held, TellsEnds}

-- e comes behind es, and `ended` are the notes that end by it
abbrev pub StaysUnlessEnded : Type 0
StaysUnlessEnded = (o : Options) (table : Targets) (es : List MidiEvent) (e : MidiEvent) (ended : Ends) (p : Pair)
    → AreInOrder 0 (es ++ e ∷ []) → AllByRecursion IsValidEvent es → o.tail ≡ 0 → TellsEnds o es e ended
    → (port_on es e ≡ p.part.port → slice_index ended.keys p.part.channel ≡ 0)
    → is_member is_same_pair (pairs_on o (is_part o) table (es ++ e ∷ []) p.part.port (length es)) p ≡ true
    → is_held o table (es ++ e ∷ []) p ≡ true
