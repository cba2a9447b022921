-- Which events of a file are of which port (`FF 21 01 pp` is the meta event in common use that names a port), with their places in the
-- whole file (this project's own). Position k is the moment after the first k events of the file; position 0 is before the first.
use Rattle.std.specs.Prelude.{◌≡◌, ◌≤◌, ◌<◌, ℕ, zero, suc, List, [], ◌∷◌, Bool, true, false, ◌&&◌, ◌||◌, nat_eq, nat_le, if◌then◌else◌, Option, Some, None, unwrap_or, filter, map}
use Rattle.std.specs.List.{AllByRecursion}
use Rattle.mt_base.specs.Midi.{MidiWhat, MetaOf, MidiEvent}
use Rattle.midi_model.specs.Sysex.{Doing, Resets, doing}
use Rattle.midi_model.specs.Music.{Music, quiet, play}

-- ---- the port of an event

-- the port that an event names
abbrev pub named_port : MidiWhat → Option ℕ
named_port (MetaOf kind (p ∷ [])) = if nat_eq kind 0x21 then Some p else None
named_port _ = None

-- A table of ports gives each track its port so far. The port of an event is that of its track, the event itself included.
abbrev pub port_of : (ℕ → ℕ) → MidiEvent → ℕ
port_of ports e = unwrap_or (named_port e.what) (ports e.track)

abbrev pub ports_after : (ℕ → ℕ) → MidiEvent → ℕ → ℕ
ports_after ports e track = if nat_eq track e.track then port_of ports e else ports track

-- before any event
abbrev pub all_zero : ℕ → ℕ
all_zero track = 0

abbrev pub ports_from : (ℕ → ℕ) → List MidiEvent → ℕ → ℕ
ports_from ports [] = ports
ports_from ports (e ∷ es) = ports_from (ports_after ports e) es

-- the port that was named last, or one that is given
abbrev pub last_named : ℕ → List MidiEvent → ℕ
last_named p [] = p
last_named p (e ∷ es) = last_named (unwrap_or (named_port e.what) p) es

-- an event that names no port but the first
abbrev pub NamesNoOther : MidiEvent → Type 0
NamesNoOther e = unwrap_or (named_port e.what) 0 ≡ 0

-- ---- the events of a port

-- an event with its position in the whole file, counted from 1
pub record Numbered : Type 0 where
  pub position : ℕ
  pub event : MidiEvent

abbrev pub with_event : Bool → Numbered → List Numbered → List Numbered
with_event true n ns = n ∷ ns
with_event false n ns = ns

abbrev pub of_port_from : ℕ → (ℕ → ℕ) → ℕ → List MidiEvent → List Numbered
of_port_from z ports k [] = []
of_port_from z ports k (e ∷ es) = with_event (nat_eq (port_of ports e) z) (record { position = suc k; event = e }) (of_port_from z (ports_after ports e) (suc k) es)

abbrev pub of_port : ℕ → List MidiEvent → List Numbered
of_port z es = of_port_from z all_zero 0 es

-- without their positions
abbrev pub unnumbered : List Numbered → List MidiEvent
unnumbered ns = map (λ n. n.event) ns

abbrev pub events_on : ℕ → List MidiEvent → List MidiEvent
events_on z es = unnumbered (of_port z es)

-- the event at a position, where it is of this port; else none
abbrev pub event_at : List Numbered → ℕ → List MidiEvent
event_at ns k = unnumbered (filter (λ n. nat_eq n.position k) ns)

-- the events up to a position, and the music then
abbrev pub events_to : ℕ → List Numbered → List MidiEvent
events_to k ns = unnumbered (filter (λ n. nat_le n.position k) ns)

abbrev pub music_at : List Numbered → ℕ → Music
music_at ns k = play quiet (events_to k ns)

abbrev pub resets : Doing → Bool
resets Resets = true
resets _ = false

-- whether the event at a position is a reset of the port
abbrev pub is_reset_at : List Numbered → ℕ → Bool
is_reset_at [] k = false
is_reset_at (n ∷ ns) k = (nat_eq n.position k && resets (doing n.event.what)) || is_reset_at ns k

-- ---- ticks

-- the tick at a position: that of the last event before it, 0 before the first
abbrev pub tick_from : ℕ → List MidiEvent → ℕ → ℕ
tick_from t [] k = t
tick_from t (e ∷ es) zero = t
tick_from t (e ∷ es) (suc k) = tick_from e.tick es k

abbrev pub tick_to : List MidiEvent → ℕ → ℕ
tick_to es k = tick_from 0 es k

-- What the music of one port is taken from: its number, its events, and the tick at each position of the whole file, since time passes
-- at events of other ports too.
pub record PortEvents : Type 0 where
  pub number : ℕ
  pub tick : ℕ → ℕ
  pub events : List Numbered

abbrev pub port_at : List MidiEvent → ℕ → PortEvents
port_at es z = record { number = z; tick = tick_to es; events = of_port z es }

-- positions ascend, all beyond a
abbrev pub Ascend : ℕ → List Numbered → Type 0
Ascend a [] = Unit {0}
Ascend a (n ∷ ns) = (a < n.position) × Ascend n.position ns

-- positions ascend, each event has the tick of its position, and ticks never fall
pub record AreTimed (port : PortEvents) : Type 0 where
  pub ascend : Ascend 0 port.events
  pub ticks : AllByRecursion (λ n. n.event.tick ≡ port.tick n.position) port.events
  pub order : (k : ℕ) → port.tick k ≤ port.tick (suc k)
