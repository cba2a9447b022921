-- The runs of a port, as the program finds them, position by position.
--
-- `es` are all events, z is the port, and `channels b` is the channel of the run that begins at position b. What the program keeps of each run
-- stands in the order in which they begin; the runs that go on stand in slots.
use Rattle.std.specs.Prelude.{◌≡◌, ◌<◌, ◌≤◌, ℕ, suc, List, [], ◌∷◌, Bool, true, false, ◌||◌, Option, Some, None, length, get_or, ◌⊎◌}
use Rattle.std.specs.Set.{is_member}
use Rattle.mt_base.specs.Midi.{MidiEvent}
use Rattle.midi_model.specs.Channel.{State, default_state}
use Rattle.retune_model.specs.Options.{Options, restless}
use Rattle.retune_model.specs.Ports.{port_at, of_port, music_at, is_reset_at}
use Rattle.retune_model.specs.Faults.{Targets, is_part}
use Rattle.retune_model.specs.Pairs.{Pair, is_same_pair}
use Rattle.retune_model.specs.Places.{nth}
use Rattle.retune_model.specs.PortNeed.{pairs_on, held_on}
use Rattle.channel_model.specs.Choice.{wanted, left_state}
use Rattle.least_replay.specs.Measure.{Run, runs_to, resets_to, needed_by}

-- ---- what is kept

pub record Seen : Type 0 where
  pub first : ℕ
  pub last : ℕ
  pub resets_first : ℕ
  pub resets_last : ℕ
  pub needs : State
  pub left : State
  pub channel : ℕ

-- what stands where no run is
abbrev pub no_run : Seen
no_run = record { first = 0; last = 0; resets_first = 0; resets_last = 0; needs = default_state; left = default_state; channel = 0 }

abbrev pub seen_at : List Seen → ℕ → Seen
seen_at rs b = get_or rs b no_run

-- a run that goes on, by its number
pub record Slot : Type 0 where
  pub pair : Pair
  pub run : ℕ

abbrev pub slot_at : List (Option Slot) → ℕ → Option Slot
slot_at xs i = get_or xs i None

abbrev pub is_slot_of : Pair → Option Slot → Bool
is_slot_of p None = false
is_slot_of p (Some x) = is_same_pair x.pair p

-- whether a run of a pair goes on
abbrev pub goes_on : List (Option Slot) → Pair → Bool
goes_on [] p = false
goes_on (x ∷ xs) p = is_slot_of p x || goes_on xs p

-- ---- a run

abbrev pub resets_on : List MidiEvent → ℕ → ℕ → ℕ
resets_on es z k = resets_to (is_reset_at (of_port z es)) k

-- the state in which a run leaves its channel
abbrev pub left_by : Options → Targets → List MidiEvent → ℕ → Run → State
left_by o table es z s = left_state o table (port_at es z) (held_on o (is_part o) table es z) (Some (s.last, s.pair))

-- a run that is over
pub record IsOver (o : Options) (table : Targets) (es : List MidiEvent) (z : ℕ) (s : Run) (r : Seen) : Type 0 where
  pub last : r.last ≡ s.last
  pub resets : r.resets_last ≡ resets_on es z s.last
  pub left : is_reset_at (of_port z es) (suc s.last) ≡ false → r.left ≡ left_by o table es z s

-- a run as it is kept at position k
pub record IsFound (o : Options) (table : Targets) (es : List MidiEvent) (channels : ℕ → ℕ) (z k : ℕ) (s : Run) (r : Seen) : Type 0 where
  pub first : r.first ≡ s.first
  pub resets : r.resets_first ≡ resets_on es z s.first
  pub needs : r.needs ≡ needed_by o table (port_at es z) s
  pub channel : r.channel ≡ channels s.first
  pub over : s.last < k → IsOver o table es z s r
  pub going : k ≤ s.last → r.last ≡ 4294967295

-- ---- all runs

-- the runs that begin up to position k
abbrev pub runs_up : Options → Targets → List MidiEvent → ℕ → ℕ → List Run
runs_up o table es z k = runs_to (pairs_on o (is_part o) table es z) (length es) k

-- those that begin up to position k, as they are kept at position j
pub record AreFound (o : Options) (table : Targets) (es : List MidiEvent) (channels : ℕ → ℕ) (z k j : ℕ) (rs : List Seen) : Type 0 where
  pub long : length rs ≡ length (runs_up o table es z k)
  pub each : (b : ℕ) (s : Run) → nth b (runs_up o table es z k) ≡ Some s → IsFound o table es channels z j s (seen_at rs b)

-- a slot has one of the runs that begin up to position k, which has position j
pub record IsRunOf (o : Options) (table : Targets) (es : List MidiEvent) (z k j : ℕ) (x : Slot) : Type 0 where
  pub run : Run
  pub there : nth x.run (runs_up o table es z k) ≡ Some run
  pub pair : run.pair ≡ x.pair
  pub lasts : j ≤ run.last

abbrev pub HoldRuns : Options → Targets → List MidiEvent → ℕ → ℕ → ℕ → List (Option Slot) → Type 0
HoldRuns o table es z k j xs = (i : ℕ) (x : Slot) → slot_at xs i ≡ Some x → IsRunOf o table es z k j x

-- a slot has the run of a pair
abbrev pub HasSlot : List (Option Slot) → Pair → Type 0
HasSlot xs p = (i : ℕ) × (x : Slot) × (slot_at xs i ≡ Some x) × (x.pair ≡ p)

abbrev pub IsThere : Options → Targets → List MidiEvent → ℕ → ℕ → Pair → Type 0
IsThere o table es z k p = is_member is_same_pair (pairs_on o (is_part o) table es z k) p ≡ true

-- at position k
pub record Goes (o : Options) (table : Targets) (es : List MidiEvent) (channels : ℕ → ℕ) (z k : ℕ) (rs : List Seen)
    (xs : List (Option Slot)) : Type 0 where
  pub runs : AreFound o table es channels z k k rs
  pub slots : HoldRuns o table es z k k xs
  pub all : (p : Pair) → IsThere o table es z k p → HasSlot xs p

-- where notes rest, the states of those that only rest are kept before event k + 1
abbrev pub IsLeft : Options → Targets → List MidiEvent → ℕ → ℕ → List Seen → Slot → Type 0
IsLeft o table es z k rs x = is_member is_same_pair (pairs_on (restless o) (is_part o) table es z k) x.pair ≡ false
    → (seen_at rs x.run).left ≡ wanted o table (music_at (of_port z es) k) x.pair

pub record GoesKept (o : Options) (table : Targets) (es : List MidiEvent) (channels : ℕ → ℕ) (z k : ℕ) (rs : List Seen)
    (xs : List (Option Slot)) : Type 0 where
  pub goes : Goes o table es channels z k rs xs
  pub kept : 0 < o.tail → (i : ℕ) (x : Slot) → slot_at xs i ≡ Some x → IsLeft o table es z k rs x

-- right after it, before a run begins
pub record GoesEnded (o : Options) (table : Targets) (es : List MidiEvent) (channels : ℕ → ℕ) (z k : ℕ) (rs : List Seen)
    (xs : List (Option Slot)) : Type 0 where
  pub runs : AreFound o table es channels z k (suc k) rs
  pub slots : HoldRuns o table es z k (suc k) xs
  pub all : (p : Pair) → IsThere o table es z k p → IsThere o table es z (suc k) p → HasSlot xs p

-- a run more stands in a slot
pub record IsPut (xs ys : List (Option Slot)) (x : Slot) : Type 0 where
  pub here : (i : ℕ) × (slot_at ys i ≡ Some x)
  pub others : (i : ℕ) (y : Slot) → slot_at xs i ≡ Some y → slot_at ys i ≡ Some y
  pub only : (i : ℕ) (y : Slot) → slot_at ys i ≡ Some y → (slot_at xs i ≡ Some y) ⊎ (y ≡ x)
