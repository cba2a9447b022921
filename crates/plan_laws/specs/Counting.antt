-- The pairs of a port from one position of a source to the next, as counting them goes: those that still hold, and the one that begins.
use Rattle.std.specs.Prelude.{◌≡◌, ◌<◌, ◌≤◌, ◌++◌, ℕ, suc, Bool, true, List, [], ◌∷◌, Some, filter, length, take, drop, nat_eq, if◌then◌else◌}
use Rattle.std.specs.Set.{is_member}
use Rattle.mt_base.specs.Midi.{MidiEvent}
use Rattle.midi_model.specs.Order.{AreInOrder}
use Rattle.retune_model.specs.Options.{Options}
use Rattle.retune_model.specs.Ports.{tick_to, port_of, all_zero, ports_from, of_port, music_at, is_reset_at, port_at}
use Rattle.retune_model.specs.Faults.{Targets, is_part}
use Rattle.retune_model.specs.Pairs.{Pair, is_same_pair, with_pair}
use Rattle.retune_model.specs.Rests.{begun_pair, begun_at, is_aimed}
use Rattle.retune_model.specs.PortNeed.{AreParts, pairs_on, held_on}
use Rattle.retune_model.specs.SourceFaults.{Fault, fault_at, first_fault, IsFaultless, IsSound}

-- e is event k + 1
abbrev pub ComesAt : List MidiEvent → ℕ → MidiEvent → Type 0
ComesAt es k e = drop k es ≡ e ∷ drop (suc k) es

-- whether a pair holds on its port after all events
abbrev pub holds_after : Options → Targets → List MidiEvent → Pair → Bool
holds_after o table es p = is_member is_same_pair (pairs_on o (is_part o) table es p.part.port (length es)) p

-- pairs, with others that begin
abbrev pub with_each : List Pair → List Pair → List Pair
with_each [] ps = ps
with_each (b ∷ bs) ps = with_pair b (with_each bs ps)

-- ---- laws

-- the events up to the next position
abbrev pub NextIsTaken : Type 0
NextIsTaken = (es : List MidiEvent) (k : ℕ) (e : MidiEvent) → ComesAt es k e → (take (suc k) es ≡ take k es ++ e ∷ []) × (length (take k es) ≡ k) × (k < length es)

-- What is so at a position by the events up to it, is so by all events.
abbrev pub PairsAreTaken : Type 0
PairsAreTaken = (o : Options) (part : ℕ → Bool) (table : Targets) (es : List MidiEvent) (z j k : ℕ) → j ≤ k → k ≤ length es →
    pairs_on o part table (take k es) z j ≡ pairs_on o part table es z j

abbrev pub HeldAreTaken : Type 0
HeldAreTaken = (o : Options) (part : ℕ → Bool) (table : Targets) (es : List MidiEvent) (z j k : ℕ) → j ≤ k → k ≤ length es →
    held_on o part table (take k es) z j ≡ held_on o part table es z j

abbrev pub MusicIsTaken : Type 0
MusicIsTaken = (es : List MidiEvent) (z j k : ℕ) → j ≤ k → k ≤ length es → music_at (of_port z (take k es)) j ≡ music_at (of_port z es) j

abbrev pub ResetIsTaken : Type 0
ResetIsTaken = (es : List MidiEvent) (z j k : ℕ) → j ≤ k → k ≤ length es → is_reset_at (of_port z (take k es)) j ≡ is_reset_at (of_port z es) j

abbrev pub TickIsTaken : Type 0
TickIsTaken = (es : List MidiEvent) (j k : ℕ) → j ≤ k → k ≤ length es → tick_to (take k es) j ≡ tick_to es j

-- The pairs after an event are those before it that hold after it, and the one that it begins.
abbrev pub PairsGoOn : Type 0
PairsGoOn = (o : Options) (part : ℕ → Bool) (table : Targets) (es : List MidiEvent) (z k : ℕ) (e : MidiEvent) → AreParts o part → ComesAt es k e →
    IsSound o table (take (suc k) es) →
    pairs_on o part table es z (suc k)
    ≡ with_each (begun_at o part table (port_at es z) (suc k)) (filter (holds_after o table (take (suc k) es)) (pairs_on o part table es z k))

-- the pair that it begins is that of its note on, on the port that its track has; and a note on that counts has a target
abbrev pub BegunIsOfEvent : Type 0
BegunIsOfEvent = (o : Options) (part : ℕ → Bool) (table : Targets) (es : List MidiEvent) (z k : ℕ) (e : MidiEvent) → ComesAt es k e →
    begun_at o part table (port_at es z) (suc k)
    ≡ (if nat_eq (port_of (ports_from all_zero (take k es)) e) z then begun_pair z o part table e.tick e.what else [])

abbrev pub EventIsAimed : Type 0
EventIsAimed = (o : Options) (part : ℕ → Bool) (table : Targets) (es : List MidiEvent) (k : ℕ) (e : MidiEvent) → AreParts o part → ComesAt es k e →
    IsSound o table (take (suc k) es) → is_aimed o part table e.tick e.what ≡ true

-- what holds after the events up to a position, is there at it
abbrev pub HoldingIsThere : Type 0
HoldingIsThere = (o : Options) (part : ℕ → Bool) (table : Targets) (es : List MidiEvent) (k : ℕ) (p : Pair) → AreParts o part → AreInOrder 0 es →
    k ≤ length es → part p.part.channel ≡ true →
    holds_after o table (take k es) p ≡ is_member is_same_pair (pairs_on o part table es p.part.port k) p

-- each pair is of the port, and of a part that counts
abbrev pub PairsAreOwn : Type 0
PairsAreOwn = (o : Options) (part : ℕ → Bool) (table : Targets) (es : List MidiEvent) (z k : ℕ) (p : Pair) → AreParts o part → IsSound o table es →
    is_member is_same_pair (pairs_on o part table es z k) p ≡ true → (p.part.port ≡ z) × (part p.part.channel ≡ true)

-- an event with a fault, where none before has one, has the first fault of the source
abbrev pub FaultIsFirst : Type 0
FaultIsFirst = (o : Options) (table : Targets) (es : List MidiEvent) (k : ℕ) (e : MidiEvent) (f : Fault) → ComesAt es k e → IsFaultless o table (take k es) →
    fault_at o table (take k es ++ e ∷ []) (length (take k es)) ≡ Some f → first_fault o table es ≡ Some f
