-- Laws of the front of a file: what was at a position, and what fault an event had, is as before when more events follow.
use Rattle.std.specs.Prelude.{◌≡◌, ◌≤◌, ◌<◌, ◌++◌, ℕ, suc, Bool, List, [], ◌∷◌, Some, None, nat_eq, if◌then◌else◌, length}
use Rattle.mt_base.specs.Midi.{MidiEvent}
use Rattle.retune_model.specs.Options.{Options}
use Rattle.retune_model.specs.Ports.{port_of, all_zero, ports_from, of_port_from, of_port, events_on, event_at, music_at, is_reset_at, tick_to, port_at}
use Rattle.retune_model.specs.Faults.{Targets}
use Rattle.retune_model.specs.Rests.{notes_at, begun_at, holds_at}
use Rattle.retune_model.specs.PortNeed.{pairs_on, held_on, greater, most, need_of}
use Rattle.retune_model.specs.SourceFaults.{Fault, fault_at, first_fault, IsFaultless}

-- ---- at a position up to the last of the front

abbrev pub TickIsKept : Type 0
TickIsKept = (front back : List MidiEvent) (k : ℕ) → k ≤ length front → tick_to (front ++ back) k ≡ tick_to front k

-- the events of a port are those in the front, and then those behind it
abbrev pub EventsAreKept : Type 0
EventsAreKept = (front back : List MidiEvent) (z : ℕ) → of_port z (front ++ back)
    ≡ of_port z front ++ of_port_from z (ports_from all_zero front) (length front) back

abbrev pub EventIsKept : Type 0
EventIsKept = (front back : List MidiEvent) (z k : ℕ) → k ≤ length front → event_at (of_port z (front ++ back)) k ≡ event_at (of_port z front) k

abbrev pub ResetIsKept : Type 0
ResetIsKept = (front back : List MidiEvent) (z k : ℕ) → k ≤ length front → is_reset_at (of_port z (front ++ back)) k ≡ is_reset_at (of_port z front) k

abbrev pub MusicIsKept : Type 0
MusicIsKept = (front back : List MidiEvent) (z k : ℕ) → k ≤ length front → music_at (of_port z (front ++ back)) k ≡ music_at (of_port z front) k

abbrev pub NotesAreKept : Type 0
NotesAreKept = (part : ℕ → Bool) (front back : List MidiEvent) (z k : ℕ) → k ≤ length front →
    notes_at part (of_port z (front ++ back)) k ≡ notes_at part (of_port z front) k

abbrev pub HoldingIsKept : Type 0
HoldingIsKept = (part : ℕ → Bool) (tail : ℕ) (front back : List MidiEvent) (z k i : ℕ) → k ≤ length front →
    holds_at part tail (port_at (front ++ back) z) k i ≡ holds_at part tail (port_at front z) k i

abbrev pub PairsAreKept : Type 0
PairsAreKept = (o : Options) (part : ℕ → Bool) (table : Targets) (front back : List MidiEvent) (z k : ℕ) → k ≤ length front →
    pairs_on o part table (front ++ back) z k ≡ pairs_on o part table front z k

abbrev pub HeldAreKept : Type 0
HeldAreKept = (o : Options) (part : ℕ → Bool) (table : Targets) (front back : List MidiEvent) (z k : ℕ) → k ≤ length front →
    held_on o part table (front ++ back) z k ≡ held_on o part table front z k

abbrev pub BegunAreKept : Type 0
BegunAreKept = (o : Options) (part : ℕ → Bool) (table : Targets) (front back : List MidiEvent) (z k : ℕ) → k ≤ length front →
    begun_at o part table (port_at (front ++ back) z) k ≡ begun_at o part table (port_at front z) k

abbrev pub MostIsKept : Type 0
MostIsKept = (o : Options) (part : ℕ → Bool) (table : Targets) (front back : List MidiEvent) (z k : ℕ) → k ≤ length front →
    most (pairs_on o part table (front ++ back) z) k ≡ most (pairs_on o part table front z) k

-- ---- at the event behind the front

abbrev pub TickOfNext : Type 0
TickOfNext = (front : List MidiEvent) (e : MidiEvent) (back : List MidiEvent) → tick_to (front ++ e ∷ back) (suc (length front)) ≡ e.tick

abbrev pub EventOfNext : Type 0
EventOfNext = (front : List MidiEvent) (e : MidiEvent) (back : List MidiEvent) (z : ℕ) →
    event_at (of_port z (front ++ e ∷ back)) (suc (length front)) ≡ (if nat_eq (port_of (ports_from all_zero front) e) z then e ∷ [] else [])

abbrev pub EventsWithNext : Type 0
EventsWithNext = (front : List MidiEvent) (e : MidiEvent) (z : ℕ) →
    events_on z (front ++ e ∷ []) ≡ (if nat_eq (port_of (ports_from all_zero front) e) z then events_on z front ++ e ∷ [] else events_on z front)

-- what is needed up to it
abbrev pub NeedWithNext : Type 0
NeedWithNext = (o : Options) (part : ℕ → Bool) (table : Targets) (front : List MidiEvent) (e : MidiEvent) (z : ℕ) →
    need_of o part table (front ++ e ∷ []) z
    ≡ greater (need_of o part table front z) (length (pairs_on o part table (front ++ e ∷ []) z (suc (length front)))) (suc (length front))

-- ---- faults

abbrev pub FaultIsKept : Type 0
FaultIsKept = (o : Options) (table : Targets) (front back : List MidiEvent) (k : ℕ) → k < length front
    → fault_at o table (front ++ back) k ≡ fault_at o table front k

abbrev pub FrontIsFaultless : Type 0
FrontIsFaultless = (o : Options) (table : Targets) (front back : List MidiEvent) → IsFaultless o table (front ++ back) → IsFaultless o table front

abbrev pub NextIsFaultless : Type 0
NextIsFaultless = (o : Options) (table : Targets) (front : List MidiEvent) (e : MidiEvent) → IsFaultless o table front →
    fault_at o table (front ++ e ∷ []) (length front) ≡ None → IsFaultless o table (front ++ e ∷ [])

abbrev pub FirstIsKept : Type 0
FirstIsKept = (o : Options) (table : Targets) (front back : List MidiEvent) (f : Fault) → first_fault o table front ≡ Some f
    → first_fault o table (front ++ back) ≡ Some f

abbrev pub NextIsFirst : Type 0
NextIsFirst = (o : Options) (table : Targets) (front : List MidiEvent) (e : MidiEvent) (back : List MidiEvent) (f : Fault)
    → IsFaultless o table front →
    fault_at o table (front ++ e ∷ []) (length front) ≡ Some f → first_fault o table (front ++ e ∷ back) ≡ Some f
