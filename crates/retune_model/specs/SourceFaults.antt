-- The faults of a source (this project's own): what an event may not do, by the music and the pairs of its port, and by the ports so far.
use Rattle.std.specs.Prelude.{◌≡◌, ◌<◌, ℕ, zero, suc, ℤ, ◌+ℤ◌, List, [], ◌∷◌, Bool, true, false, ◌&&◌, ◌||◌, not, nat_eq, nat_le, nat_lt, if◌then◌else◌, Option, Some, None, is_some, length, take, drop}
use Rattle.std.specs.List.{AllByRecursion}
use Rattle.std.specs.Set.{is_member}
use Rattle.mt_base.specs.declared.event.Msg.{Msg}
use Rattle.mt_base.specs.Midi.{MidiWhat, Says, SysexOf, MetaOf, MidiEvent, channel_of}
use Rattle.midi_model.specs.Sysex.{is_tuning}
use Rattle.midi_model.specs.Channel.{counted}
use Rattle.midi_model.specs.Music.{Music, channel_at, step}
use Rattle.midi_model.specs.Order.{AreInOrder}
use Rattle.retune_model.specs.Options.{Options, bends_notes}
use Rattle.retune_model.specs.Source.{bend_in_steps}
use Rattle.retune_model.specs.Ports.{PortEvents, named_port, port_of, all_zero, ports_from, ports_after, port_at, music_at}
use Rattle.retune_model.specs.Faults.{Targets, Kind, UnmappedKey, KeyOutOfDevice, Unison, BendTooFar, ModeMessage, DataStep, TuningInSource, MpeSource, Port, TooManyParameters, PolyInMpe, Restrike, is_part, is_unmapped, is_out_of_device, is_unison, is_restrike, is_within_bend, is_bend, is_mode, is_data_step, is_tuning_entry, is_zone_entry, is_poly, first_that}
use Rattle.retune_model.specs.Pairs.{Part, Pair, is_same_part, is_same_pair, int_lt}
use Rattle.retune_model.specs.Rests.{pairs_at}

-- ---- ports

abbrev pub is_message : MidiWhat → Bool
is_message (Says msg) = true
is_message _ = false

-- whether a list of events has a channel message or a port event in a track
abbrev pub has_started : ℕ → List MidiEvent → Bool
has_started track [] = false
has_started track (e ∷ es) = (nat_eq e.track track && (is_message e.what || is_some (named_port e.what))) || has_started track es

abbrev pub names_another : Option ℕ → ℕ → Bool
names_another (Some p) port = not (nat_eq p port)
names_another None port = false

-- a port event with another port than its track's so far, behind a channel message or a port event of the track
abbrev pub changes_port : List MidiEvent → MidiEvent → Bool
changes_port before e = names_another (named_port e.what) (ports_from all_zero before e.track) && has_started e.track before

-- the ports that have had a channel message, each once
abbrev pub has_port : ℕ → List ℕ → Bool
has_port z [] = false
has_port z (p ∷ ps) = nat_eq p z || has_port z ps

abbrev pub with_port : Bool → ℕ → List ℕ → List ℕ
with_port true z ps = if has_port z ps then ps else z ∷ ps
with_port false z ps = ps

abbrev pub ports_used : (ℕ → ℕ) → List ℕ → List MidiEvent → List ℕ
ports_used ports used [] = used
ports_used ports used (e ∷ es) = ports_used (ports_after ports e) (with_port (is_message e.what) (port_of ports e) used) es

-- a channel message of a port on which none was before, where four ports have had one
abbrev pub opens_fifth : List MidiEvent → MidiEvent → Bool
opens_fifth before e =
    is_message e.what
    && (not (has_port (port_of (ports_from all_zero before) e) (ports_used all_zero [] before)) && nat_le 4 (length (ports_used all_zero [] before)))

abbrev pub breaks_ports : List MidiEvent → MidiEvent → Bool
breaks_ports before e = changes_port before e || opens_fifth before e

-- ---- bends

-- of the pairs of a part, by their steps, the first whose steps and those of the part's bend are together beyond a bend's
abbrev pub first_beyond : Part → ℤ → List Pair → Option (ℤ × ℤ)
first_beyond part r [] = None
first_beyond part r (p ∷ ps) = if is_same_part p.part part && not (is_within_bend (p.steps +ℤ r)) then Some (p.steps, r) else first_beyond part r ps

-- of the part of a message; z is its port, after the music after it, and pairs are those that hold then
abbrev pub beyond_after : ℕ → Options → Music → List Pair → Msg → Option (ℤ × ℤ)
beyond_after z o after pairs msg = first_beyond (record { port = z; channel = channel_of msg }) (bend_in_steps o.range (channel_at after (channel_of msg))) pairs

-- ---- the first that holds, at one event

-- whether a part has more than 16 parameters that are not at their defaults; kept drums are not looked at
abbrev pub has_too_many : Options → Music → Msg → Bool
has_too_many o after msg = is_part o (channel_of msg) && nat_lt 16 (counted (channel_at after (channel_of msg)))

-- z is the port of the event, m and after are the port's music before it and after it, ports says whether it breaks the rules of ports, and pairs are
-- those that hold after it
abbrev pub message_tests : ℕ → Options → Targets → ℕ → Music → Music → Bool → List Pair → Msg → List (Kind × Bool)
message_tests z o table t m after ports pairs msg =
    (UnmappedKey, is_unmapped o table t msg)
    ∷ (KeyOutOfDevice, is_out_of_device o table t msg)
    ∷ (Unison, is_unison o table m t msg)
    ∷ (BendTooFar, is_bend o.route && (is_part o (channel_of msg) && is_some (beyond_after z o after pairs msg)))
    ∷ (ModeMessage, is_mode o msg)
    ∷ (DataStep, is_data_step o msg)
    ∷ (TuningInSource, is_tuning_entry o m msg)
    ∷ (MpeSource, is_zone_entry o m msg)
    ∷ (Port, ports)
    ∷ (TooManyParameters, has_too_many o after msg)
    ∷ (PolyInMpe, is_poly o msg)
    ∷ (Restrike, is_restrike o table m t msg)
    ∷ []

abbrev pub kind_in : ℕ → Options → Targets → ℕ → Music → Music → Bool → List Pair → MidiWhat → Option Kind
kind_in z o table t m after ports pairs (Says msg) = first_that (message_tests z o table t m after ports pairs msg)
kind_in z o table t m after ports pairs (SysexOf lead bytes) = if nat_eq lead 0xf0 && is_tuning bytes then Some TuningInSource else None
kind_in z o table t m after ports pairs (MetaOf kind bytes) = if ports then Some Port else None

-- what an answer says of a fault
pub record Fault : Type 0 where
  pub position : ℕ
  pub tick : ℕ
  pub track : ℕ
  pub kind : Kind
  -- of BendTooFar: the steps of the pair, and those of its part's bend
  pub bend : Option (ℤ × ℤ)

abbrev pub bend_of : ℕ → Options → Music → List Pair → Kind → MidiWhat → Option (ℤ × ℤ)
bend_of z o after pairs BendTooFar (Says msg) = beyond_after z o after pairs msg
bend_of z o after pairs _ _ = None

abbrev pub placed_at : ℕ → MidiEvent → (Kind → Option (ℤ × ℤ)) → Option Kind → Option Fault
placed_at k e bend None = None
placed_at k e bend (Some kind) = Some (record { position = k; tick = e.tick; track = e.track; kind = kind; bend = bend kind })

-- the kind of fault of event k + 1, which is e; port is its port, and ports says whether it breaks a rule of ports
abbrev pub kind_behind : Options → Targets → Bool → PortEvents → ℕ → MidiEvent → Option Kind
kind_behind o table ports port k e =
    kind_in port.number o table e.tick (music_at port.events k) (music_at port.events (suc k)) ports (pairs_at o (is_part o) table port (suc k)) e.what

-- es are the events of the file, of which e stands behind the first k, and port is the port of e
abbrev pub fault_behind : Options → Targets → List MidiEvent → PortEvents → ℕ → MidiEvent → Option Fault
fault_behind o table es port k e =
    placed_at (suc k) e (λ kind. bend_of port.number o (music_at port.events (suc k)) (pairs_at o (is_part o) table port (suc k)) kind e.what)
    (kind_behind o table (breaks_ports (take k es) e) port k e)

abbrev pub fault_of : Options → Targets → List MidiEvent → ℕ → List MidiEvent → Option Fault
fault_of o table es k [] = None
fault_of o table es k (e ∷ rest) = fault_behind o table es (port_at es (port_of (ports_from all_zero (take k es)) e)) k e

-- The fault of event k + 1 of a source, where it has one.
abbrev pub fault_at : Options → Targets → List MidiEvent → ℕ → Option Fault
fault_at o table es k = fault_of o table es k (drop k es)

-- no event has a fault
abbrev pub IsFaultless : Options → Targets → List MidiEvent → Type 0
IsFaultless o table es = (k : ℕ) → k < length es → fault_at o table es k ≡ None

-- ---- the first event that has one

-- the first there is among n from k on
abbrev pub or_else : Option Fault → Option Fault → Option Fault
or_else (Some f) later = Some f
or_else None later = later

abbrev pub first_from : (ℕ → Option Fault) → ℕ → ℕ → Option Fault
first_from fault k zero = None
first_from fault k (suc n) = or_else (fault k) (first_from fault (suc k) n)

-- the fault of the first event that has one
abbrev pub first_fault : Options → Targets → List MidiEvent → Option Fault
first_fault o table es = first_from (fault_at o table es) 0 (length es)

-- the fault of an event that has one, where none before has
pub record IsFirst (o : Options) (table : Targets) (es : List MidiEvent) (k : ℕ) (f : Fault) : Type 0 where
  pub there : k < length es
  pub here : fault_at o table es k ≡ Some f
  pub none_before : (j : ℕ) → j < k → fault_at o table es j ≡ None

-- A source that can be retuned by bends: without a fault, its events in the order of their ticks.
pub record IsSound (o : Options) (table : Targets) (es : List MidiEvent) : Type 0 where
  pub bends : bends_notes o.route ≡ true
  pub in_order : AreInOrder 0 es
  pub faultless : IsFaultless o table es

-- the least steps of a pair of a part that go too far
pub record IsLeastBeyond (part : Part) (r : ℤ) (ps : List Pair) (q : ℤ) : Type 0 where
  pub there : is_member is_same_pair ps (record { part = part; steps = q }) ≡ true
  pub beyond : is_within_bend (q +ℤ r) ≡ false
  pub least : (p : Pair) → is_member is_same_pair ps p ≡ true → p.part ≡ part → is_within_bend (p.steps +ℤ r) ≡ false → int_lt p.steps q ≡ false

-- ---- by the music of each port alone

-- whether an event of a port has no fault by the music and the pairs of its port; what is said of ports themselves is left out
abbrev pub IsFine : Options → Targets → PortEvents → ℕ → MidiEvent → Type 0
IsFine o table port k e = kind_behind o table false port k e ≡ None

-- none of its events has one
abbrev pub AreFine : Options → Targets → PortEvents → Type 0
AreFine o table port = AllByRecursion (λ n. (k : ℕ) → n.position ≡ suc k → IsFine o table port k n.event) port.events

-- no event breaks the rules of ports
abbrev pub BreakNoPorts : List MidiEvent → Type 0
BreakNoPorts es = (k : ℕ) (e : MidiEvent) (later : List MidiEvent) → drop k es ≡ e ∷ later → breaks_ports (take k es) e ≡ false

-- The events of one port in turn, m being the music before them: none has a fault by the music of the port, whatever pairs there are. So
-- it is on the routes on which no fault looks at pairs; on bend no message of a retuned part is such an event.
abbrev pub FineInTurn : Options → Targets → Music → List MidiEvent → Type 0
FineInTurn o table m [] = Unit {0}
FineInTurn o table m (e ∷ es) = ((pairs : List Pair) → kind_in 0 o table e.tick m (step m e) false pairs e.what ≡ None) × FineInTurn o table (step m e) es
