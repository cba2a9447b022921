-- Laws of faults.
use Rattle.std.specs.Prelude.{◌≡◌, ◌++◌, ◌+ℤ◌, ℕ, ℤ, suc, Bool, true, false, List, ◌∷◌, Some, None, length}
use Rattle.std.specs.List.{AllByRecursion}
use Rattle.std.specs.Set.{is_member}
use Rattle.mt_base.specs.declared.event.Msg.{Msg}
use Rattle.mt_base.specs.Midi.{MidiEvent}
use Rattle.midi_model.specs.Music.{Music, quiet, asks}
use Rattle.retune_model.specs.Options.{Options}
use Rattle.retune_model.specs.Ports.{PortEvents, NamesNoOther, port_at}
use Rattle.retune_model.specs.Faults.{Targets, is_within_bend, is_zone_entry}
use Rattle.retune_model.specs.Pairs.{Part, Pair, is_same_pair}
use Rattle.retune_model.specs.Rests.{pairs_at, IsAimedPort}
use Rattle.retune_model.specs.PortNeed.{AreParts}
use Rattle.retune_model.specs.SourceFaults.{Fault, fault_at, first_fault, first_beyond, IsFaultless, IsFirst, IsSound, IsLeastBeyond, BreakNoPorts, AreFine, FineInTurn}

-- a message that isn't data entry of a zone's size on a part asks for no zone
abbrev pub OnlyZoneEntriesAskForZones : Type 0
OnlyZoneEntriesAskForZones = (o : Options) (m : Music) (msg : Msg) → is_zone_entry o m msg ≡ false → asks m msg ≡ None

-- ---- the first fault

-- there is none exactly where no event has one
abbrev pub NoFirstNoFault : Type 0
NoFirstNoFault = (o : Options) (table : Targets) (es : List MidiEvent) → first_fault o table es ≡ None → IsFaultless o table es

abbrev pub NoFaultNoFirst : Type 0
NoFaultNoFirst = (o : Options) (table : Targets) (es : List MidiEvent) → IsFaultless o table es → first_fault o table es ≡ None

-- else it is the fault of the first event that has one
abbrev pub FirstIsOfAnEvent : Type 0
FirstIsOfAnEvent = (o : Options) (table : Targets) (es : List MidiEvent) (f : Fault) → first_fault o table es ≡ Some f → (k : ℕ) × IsFirst o table es k f

abbrev pub FirstIsFound : Type 0
FirstIsFound = (o : Options) (table : Targets) (es : List MidiEvent) (k : ℕ) (f : Fault) → IsFirst o table es k f → first_fault o table es ≡ Some f

-- with that event's position, tick and track
pub record IsPlaced (before : List MidiEvent) (e : MidiEvent) (f : Fault) : Type 0 where
  pub position : f.position ≡ suc (length before)
  pub tick : f.tick ≡ e.tick
  pub track : f.track ≡ e.track

abbrev pub FaultsArePlaced : Type 0
FaultsArePlaced = (o : Options) (table : Targets) (before : List MidiEvent) (e : MidiEvent) (later : List MidiEvent) (f : Fault) →
    fault_at o table (before ++ e ∷ later) (length before) ≡ Some f → IsPlaced before e f

-- ---- bends

-- the steps that a fault keeps are the least of a pair of the part that go too far with the part's bend
abbrev pub LeastIsKept : Type 0
LeastIsKept = (o : Options) (part : ℕ → Bool) (table : Targets) (port : PortEvents) (k : ℕ) (p : Part) (r q s : ℤ) →
    first_beyond p r (pairs_at o part table port k) ≡ Some (q, s) → (s ≡ r) × IsLeastBeyond p r (pairs_at o part table port k) q

-- where none are found, all pairs of the part are within a bend
abbrev pub NoneIsBeyond : Type 0
NoneIsBeyond = (o : Options) (part : ℕ → Bool) (table : Targets) (port : PortEvents) (k : ℕ) (c : Part) (r : ℤ) →
    first_beyond c r (pairs_at o part table port k) ≡ None → (p : Pair) → is_member is_same_pair (pairs_at o part table port k) p ≡ true → p.part ≡ c → is_within_bend (p.steps +ℤ r) ≡ true

-- ---- port by port

-- what the laws of rests ask of a port, a source without a fault has on every port
abbrev pub SoundPortsAreAimed : Type 0
SoundPortsAreAimed = (o : Options) (part : ℕ → Bool) (table : Targets) (es : List MidiEvent) (z : ℕ) → AreParts o part → IsSound o table es → IsAimedPort o part table (port_at es z)

-- no event has a fault exactly where none has one by the music of its port, and none breaks the rules of ports
abbrev pub FaultlessPorts : Type 0
FaultlessPorts = (o : Options) (table : Targets) (es : List MidiEvent) (z : ℕ) → IsFaultless o table es → AreFine o table (port_at es z)

abbrev pub PortsAreFaultless : Type 0
PortsAreFaultless = (o : Options) (table : Targets) (es : List MidiEvent) → BreakNoPorts es → ((z : ℕ) → AreFine o table (port_at es z)) → IsFaultless o table es

abbrev pub FaultlessBreakNoPorts : Type 0
FaultlessBreakNoPorts = (o : Options) (table : Targets) (es : List MidiEvent) → IsFaultless o table es → BreakNoPorts es

-- where no event names a port but the first, none breaks the rules of ports
abbrev pub OnePortBreaksNone : Type 0
OnePortBreaksNone = (es : List MidiEvent) → AllByRecursion NamesNoOther es → BreakNoPorts es

-- where no event names a port but the first, and none has a fault by the music so far, the source has none
abbrev pub OnePortIsFaultless : Type 0
OnePortIsFaultless = (o : Options) (table : Targets) (es : List MidiEvent) → AllByRecursion NamesNoOther es → FineInTurn o table quiet es → IsFaultless o table es
