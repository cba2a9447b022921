-- What the dump and live routes write plays the same as its source, and can be written as a file like it.
use Rattle.std.proofs.Common.{◌≡◌, ◌≤◌, ℕ, List, false, refl, arith}
use Rattle.mt_base.specs.Midi.{MidiEvent}
use Rattle.midi_model.specs.FileText.{MidiFile}
use Rattle.midi_model.specs.Merged.{merged, IsPlayable}
use Rattle.retune_model.specs.Table.{Scaling}
use Rattle.retune_model.specs.Options.{Route, ByDump, ByLive, ByBend, ByMpe, Options, bends_notes}
use Rattle.retune_model.specs.Faults.{Targets}
use Rattle.retune_model.specs.PlaysTheSame.{plain_device, PlayTheSame, HasSameShape, PlaysTheSame}
use Rattle.retune_model.specs.OutputLaws.{DumpedIsPlayable, ToldIsPlayable, DumpPlaysTheSame, DumpedFilePlaysTheSame, LivePlaysTheSame, ToldFilePlaysTheSame}
use Rattle.retune_model.specs.Dumpable.{IsDumpable, IsLivable}
use Rattle.routes.specs.Laws.{BytesAreDumps, BytesAreChanges, RoutedPlayTheSame, RoutedFilePlaysTheSame, RoutedIsPlayable}
use Rattle.routes.specs.Routed.{dump_of, change_of, routed_by, IsRoutable}
use Rattle.routes.proofs.Bytes.{dump_length, change_length}

dumpable : BytesAreDumps → (scaling : Scaling) (o : Options) (table : Targets) (es : List MidiEvent) → o.route ≡ ByDump
    → IsRoutable scaling o table es
    → IsDumpable scaling o table (dump_of o table) es
dumpable bytes scaling o table es is h = record {
  route = is;
  valid = h.valid;
  in_order = h.in_order;
  faultless = h.faultless;
  bounds = h.bounds;
  few_terms = h.few_terms;
  one_table = h.one_table;
  dump = bytes o table h.program;
}

livable : BytesAreChanges → (scaling : Scaling) (o : Options) (table : Targets) (es : List MidiEvent) → o.route ≡ ByLive
    → IsRoutable scaling o table es
    → IsLivable scaling o table (change_of o table) es
livable bytes scaling o table es is h = record {
  route = is;
  valid = h.valid;
  in_order = h.in_order;
  faultless = h.faultless;
  bounds = h.bounds;
  few_terms = h.few_terms;
  one_table = h.one_table;
  changes = bytes o table h.program;
}

same_by : BytesAreDumps → BytesAreChanges → DumpPlaysTheSame → LivePlaysTheSame
    → (scaling : Scaling) (o : Options) (table : Targets) (es : List MidiEvent)
    → IsRoutable scaling o table es → (r : Route) → o.route ≡ r → bends_notes r ≡ false
    → PlayTheSame scaling o table (plain_device o) es (routed_by r o table es)
same_by dumps changes dump live scaling o table es h ByDump is not = dump scaling o table (dump_of o table) es
    (dumpable dumps scaling o table es is h)
same_by dumps changes dump live scaling o table es h ByLive is not = live scaling o table (change_of o table) es
    (livable changes scaling o table es is h)
same_by dumps changes dump live scaling o table es h ByBend is not = absurd cc
same_by dumps changes dump live scaling o table es h ByMpe is not = absurd cc

pub plays_the_same : BytesAreDumps → BytesAreChanges → DumpPlaysTheSame → LivePlaysTheSame → RoutedPlayTheSame
plays_the_same dumps changes dump live scaling o table es h = same_by dumps changes dump live scaling o table es h o.route refl h.route

file_by : BytesAreDumps → BytesAreChanges → DumpedFilePlaysTheSame → ToldFilePlaysTheSame
    → (scaling : Scaling) (o : Options) (table : Targets) (source out : MidiFile)
    → HasSameShape source out → IsRoutable scaling o table (merged source) → (r : Route) → o.route ≡ r → bends_notes r ≡ false
    → merged out ≡ routed_by r o table (merged source) → PlaysTheSame scaling o table source out
file_by dumps changes dump live scaling o table source out shape h ByDump is not put =
    dump scaling o table (dump_of o table) source out shape put (dumpable dumps scaling o table (merged source) is h)
file_by dumps changes dump live scaling o table source out shape h ByLive is not put =
    live scaling o table (change_of o table) source out shape put (livable changes scaling o table (merged source) is h)
file_by dumps changes dump live scaling o table source out shape h ByBend is not put = absurd cc
file_by dumps changes dump live scaling o table source out shape h ByMpe is not put = absurd cc

pub file_plays_the_same : BytesAreDumps → BytesAreChanges → DumpedFilePlaysTheSame → ToldFilePlaysTheSame → RoutedFilePlaysTheSame
file_plays_the_same dumps changes dump live scaling o table source out shape put h = file_by dumps changes dump live scaling o table source out shape h o.route refl h.route put

playable_by : DumpedIsPlayable → ToldIsPlayable → (tracks : ℕ) (o : Options) (table : Targets) (es : List MidiEvent) → o.program ≤ 127
    → IsPlayable tracks es
    → (r : Route) → IsPlayable tracks (routed_by r o table es)
playable_by dump live tracks o table es low h ByDump = dump tracks o (dump_of o table) es (omega (arith, dump_length o table)) low h
playable_by dump live tracks o table es low h ByLive = live tracks o (change_of o table) es (λ k below. omega (arith, change_length o table k)) low h
playable_by dump live tracks o table es low h ByBend = dump tracks o (dump_of o table) es (omega (arith, dump_length o table)) low h
playable_by dump live tracks o table es low h ByMpe = dump tracks o (dump_of o table) es (omega (arith, dump_length o table)) low h

pub is_playable : DumpedIsPlayable → ToldIsPlayable → RoutedIsPlayable
is_playable dump live tracks o table es low h = playable_by dump live tracks o table es low h o.route
