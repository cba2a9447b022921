-- A used row of a port, or of a zone of it, position by position: which pair is on each place, and that each run got the best one.
-- `part` says of which channels the pairs are, and `row b` is the place of the run that begins at position b.
use Rattle.std.specs.Prelude.{◌≡◌, ◌<◌, ℕ, suc, List, [], ◌∷◌, Bool, true, false, ◌&&◌, nat_lt, if◌then◌else◌, Option, Some, None, length, map, take}
use Rattle.mt_base.specs.Midi.{MidiEvent}
use Rattle.midi_model.specs.Channel.{State}
use Rattle.midi_model.specs.Receiver.{after}
use Rattle.retune_model.specs.Options.{Options, restless}
use Rattle.retune_model.specs.Ports.{port_at, of_port, events_on, is_reset_at}
use Rattle.retune_model.specs.Faults.{Targets, is_part, is_bend}
use Rattle.retune_model.specs.Pairs.{Pair, is_same_pair}
use Rattle.retune_model.specs.Rests.{begun_at}
use Rattle.retune_model.specs.Runs.{begins}
use Rattle.retune_model.specs.PortNeed.{AreParts, pairs_on, IsNeedOf}
use Rattle.retune_model.specs.SourceFaults.{IsSound}
use Rattle.channel_model.specs.Choice.{wanted, from_state, setup_length, member_setup, TakesBest}
use Rattle.plan_laws.specs.Placing.{Seen, seen_at, Has, place_at, HasPlaces, HasLeft, leave, clear, begin_on, IsBestSeen}
use Rattle.plan_laws.specs.PlacingLaws.{AllAreNowhere}
use Rattle.plan_laws.specs.FromLaws.{member_state, member_from}
use Rattle.plan_laws.specs.Counting.{ComesAt, holds_after}

-- ---- what a channel needs

-- the state that a channel needs for a pair, by the events so far: on MPE a member with its bend
abbrev pub needed : Options → Targets → List MidiEvent → Pair → State
needed o table es p = if is_bend o.route then wanted o table (after (events_on p.part.port es)).music p else member_state p

-- On bend, where notes rest, the state in which a pair leaves its channel is kept before the event at which it does.
abbrev pub keeps_before : Options → Bool
keeps_before o = is_bend o.route && nat_lt 0 o.tail

-- the state in which a pair leaves its channel, where that isn't kept before
abbrev pub leaves_by : Options → Targets → List MidiEvent → Pair → Option State
leaves_by o table es p = if keeps_before o then None else Some (needed o table es p)

-- whether a pair sounds after all events
abbrev pub sounds_after : Options → Targets → List MidiEvent → Pair → Bool
sounds_after o table es p = holds_after (restless o) table es p

-- a place whose pair only rests keeps its state, since the rest may run out
abbrev pub keep_if : (Pair → Bool) → (Pair → State) → Option Pair → Seen → Seen
keep_if sounds needs None s = s
keep_if sounds needs (Some p) s = if sounds p then s else (record { pair = s.pair; left = needs p; since = s.since })

abbrev pub keep : (Pair → Bool) → (Pair → State) → Seen → Seen
keep sounds needs s = keep_if sounds needs s.pair s

abbrev pub kept : Options → Targets → List MidiEvent → List Seen → List Seen
kept o table es ss = if keeps_before o then map (keep (sounds_after o table es) (needed o table es)) ss else ss

-- ---- a row

-- the state from which a run is brought, and what that costs
abbrev pub from_on : Options → (ℕ → Bool) → Targets → List MidiEvent → ℕ → (ℕ → ℕ) → ℕ → ℕ → State
from_on o part table es z row c k =
    if is_bend o.route then from_state o table (port_at es z) row c k else member_from (port_at es z) (pairs_on o part table es z) row c k

abbrev pub cost_on : Options → (ℕ → Bool) → Targets → List MidiEvent → ℕ → (ℕ → ℕ) → Pair → ℕ → ℕ → ℕ
cost_on o part table es z row p c k =
    if is_bend o.route then setup_length o table (port_at es z) row p c k else member_setup (port_at es z) (pairs_on o part table es z) row p c k

pub record IsRowAt (o : Options) (part : ℕ → Bool) (table : Targets) (es : List MidiEvent) (z : ℕ) (row : ℕ
    → ℕ) (k : ℕ) (ss : List Seen) : Type 0 where
  pub places : HasPlaces (pairs_on o part table es z) row (from_on o part table es z row) k ss
  pub takes : TakesBest (pairs_on o part table es z) k (length ss) (cost_on o part table es z row) row

-- the same right after an event, before a run begins
pub record IsRowLeft (o : Options) (part : ℕ → Bool) (table : Targets) (es : List MidiEvent) (z : ℕ) (row : ℕ
    → ℕ) (k : ℕ) (ss : List Seen) : Type 0 where
  pub places : HasLeft (pairs_on o part table es z) row (from_on o part table es z row) k ss
  pub takes : TakesBest (pairs_on o part table es z) k (length ss) (cost_on o part table es z row) row

-- A source without a fault on a route with bends, and the pairs of which channels are on the row: on bend of all parts.
pub record IsRowOf (o : Options) (part : ℕ → Bool) (table : Targets) (es : List MidiEvent) : Type 0 where
  pub sound : IsSound o table es
  pub parts : AreParts o part
  pub all : is_bend o.route ≡ true → part ≡ is_part o

-- ---- laws

abbrev pub RowAtFirst : Type 0
RowAtFirst = (o : Options) (part : ℕ → Bool) (table : Targets) (es : List MidiEvent) (z : ℕ) (row : ℕ → ℕ) (ss : List Seen)
    → IsRowOf o part table es → AllAreNowhere ss → IsRowAt o part table es z row 0 ss

-- the pairs on a row are of parts
abbrev pub RowIsOfParts : Type 0
RowIsOfParts = (o : Options) (part : ℕ → Bool) (table : Targets) (es : List MidiEvent) (z : ℕ) (row : ℕ
    → ℕ) (k : ℕ) (ss : List Seen) (c : ℕ) (p : Pair)
    → IsRowOf o part table es → IsRowAt o part table es z row k ss → (seen_at ss c).pair ≡ Some p → (part p.part.channel ≡ true) × (p.part.port ≡ z)

-- an event that is no reset of the port frees the places of the pairs that it ends
abbrev pub RowLeaves : Type 0
RowLeaves = (o : Options) (part : ℕ → Bool) (table : Targets) (es : List MidiEvent) (z : ℕ) (row : ℕ → ℕ) (k : ℕ) (e : MidiEvent) (ss : List Seen)
    → IsRowOf o part table es → ComesAt es k e → IsRowAt o part table es z row k ss → is_reset_at (of_port z es) (suc k) ≡ false
    → IsRowLeft o part table es z row k
    (map (leave (holds_after o table (take (suc k) es)) (leaves_by o table (take (suc k) es)) (suc k)) (kept o table (take k es) ss))

-- a reset frees all
abbrev pub RowIsCleared : Type 0
RowIsCleared = (o : Options) (part : ℕ → Bool) (table : Targets) (es : List MidiEvent) (z : ℕ) (row : ℕ → ℕ) (k : ℕ) (ss : List Seen)
    → IsRowOf o part table es → IsRowAt o part table es z row k ss → is_reset_at (of_port z es) (suc k) ≡ true
    → IsRowAt o part table es z row (suc k) (map (clear (suc k)) (kept o table (take k es) ss))

-- where no note of these channels begins
abbrev pub RowStays : Type 0
RowStays = (o : Options) (part : ℕ → Bool) (table : Targets) (es : List MidiEvent) (z : ℕ) (row : ℕ → ℕ) (k : ℕ) (ss : List Seen)
    → IsRowOf o part table es → IsRowLeft o part table es z row k ss → is_reset_at (of_port z es) (suc k) ≡ false
    → begun_at o part table (port_at es z) (suc k) ≡ []
    → IsRowAt o part table es z row (suc k) ss

-- where one of a pair begins whose run goes on
abbrev pub RowGoesOn : Type 0
RowGoesOn = (o : Options) (part : ℕ → Bool) (table : Targets) (es : List MidiEvent) (z : ℕ) (row : ℕ
    → ℕ) (k : ℕ) (ss : List Seen) (p : Pair) (c : ℕ)
    → IsRowOf o part table es → IsRowLeft o part table es z row k ss → is_reset_at (of_port z es) (suc k) ≡ false
    → begun_at o part table (port_at es z) (suc k) ≡ p ∷ [] → (seen_at ss c).pair ≡ Some p
    → IsRowAt o part table es z row (suc k) ss

-- where a run begins, it gets the best of the free places
abbrev pub RowTakes : Type 0
RowTakes = (o : Options) (part : ℕ → Bool) (table : Targets) (es : List MidiEvent) (z : ℕ) (row : ℕ
    → ℕ) (k : ℕ) (e : MidiEvent) (ss : List Seen) (p : Pair) (c : ℕ)
    → IsRowOf o part table es → ComesAt es k e → IsRowLeft o part table es z row k ss → is_reset_at (of_port z es) (suc k) ≡ false
    → begun_at o part table (port_at es z) (suc k) ≡ p ∷ [] → ((d : ℕ) → (seen_at ss d).pair ≡ Some p → ⊥)
    → IsBestSeen ss (needed o table (take (suc k) es) p) c → row (suc k) ≡ c
    → IsRowAt o part table es z row (suc k) (begin_on ss c p)

-- there is one, where the row is as long as is needed
abbrev pub RowHasRoom : Type 0
RowHasRoom = (o : Options) (part : ℕ → Bool) (table : Targets) (es : List MidiEvent) (z : ℕ) (row : ℕ
    → ℕ) (k : ℕ) (e : MidiEvent) (ss : List Seen) (p : Pair) (instant : ℕ)
    → IsRowOf o part table es → ComesAt es k e → IsRowLeft o part table es z row k ss
    → begun_at o part table (port_at es z) (suc k) ≡ p ∷ [] → ((d : ℕ) → (seen_at ss d).pair ≡ Some p → ⊥)
    → IsNeedOf o part table es z (length ss) instant
    → (c : ℕ) × (c < length ss) × ((seen_at ss c).pair ≡ None)

-- a pair on a place is there, and its run is on that place
abbrev pub RowHasPair : Type 0
RowHasPair = (o : Options) (part : ℕ → Bool) (table : Targets) (es : List MidiEvent) (z : ℕ) (row : ℕ
    → ℕ) (k : ℕ) (ss : List Seen) (c : ℕ) (p : Pair)
    → IsRowAt o part table es z row k ss → (seen_at ss c).pair ≡ Some p
    → Has (pairs_on o part table es z k) p × (place_at (pairs_on o part table es z) row k p ≡ c)

-- right after an event, it was there before it
abbrev pub RowKeepsPair : Type 0
RowKeepsPair = (o : Options) (part : ℕ → Bool) (table : Targets) (es : List MidiEvent) (z : ℕ) (row : ℕ
    → ℕ) (k : ℕ) (ss : List Seen) (c : ℕ) (p : Pair)
    → IsRowLeft o part table es z row k ss → (seen_at ss c).pair ≡ Some p
    → Has (pairs_on o part table es z k) p × (place_at (pairs_on o part table es z) row k p ≡ c)

-- the run of a pair begins with its note where it is on no place
abbrev pub RowBegins : Type 0
RowBegins = (o : Options) (part : ℕ → Bool) (table : Targets) (es : List MidiEvent) (z : ℕ) (row : ℕ
    → ℕ) (k : ℕ) (ss : List Seen) (p : Pair)
    → IsRowOf o part table es → IsRowLeft o part table es z row k ss
    → begun_at o part table (port_at es z) (suc k) ≡ p ∷ [] → ((d : ℕ) → (seen_at ss d).pair ≡ Some p → ⊥)
    → begins is_same_pair (pairs_on o part table es z) k p ≡ true
