-- The rows that serve the notes of a source, as the program keeps them, while notes are given channels; `gs` is what was given so far.
use Rattle.std.specs.Prelude.{◌≡◌, ◌<◌, ◌≤◌, ℕ, suc, List, [], ◌∷◌, Bool, true, false, ◌&&◌, ◌||◌, nat_eq, if◌then◌else◌, Option, Some, None, unwrap_or, length, map, get_or}
use Rattle.std.specs.List.{AllByRecursion}
use Rattle.mt_base.specs.Midi.{MidiEvent}
use Rattle.retune_model.specs.Options.{Options, bends_notes}
use Rattle.retune_model.specs.Ports.{port_at, of_port, is_reset_at}
use Rattle.retune_model.specs.Faults.{Targets, is_part}
use Rattle.retune_model.specs.Pairs.{Pair}
use Rattle.retune_model.specs.Rests.{begun_at}
use Rattle.retune_model.specs.PortNeed.{AreParts, IsNeedOf, pairs_on}
use Rattle.channel_model.specs.Rows.{channel_by}
use Rattle.plan_laws.specs.Counting.{ComesAt}
use Rattle.plan_laws.specs.Rows.{IsRowOf}
use Rattle.channel_plan.specs.Passing.{channels_in}
use Rattle.channel_plan.specs.Told.{or_of, of_note, port_in}
use Rattle.channel_plan.specs.Planned.{Begins, notes_to, runs_on, number_at, run_told, place_among}
use Rattle.channel_plan.specs.Stepping.{StandsAt, IsKept, StandsLeft}
use Rattle.channel_plan.specs.declared.plan.Given.{Given}
use Rattle.channel_plan.specs.declared.plan.PortPlan.{PortPlan}
use Rattle.channel_plan.specs.declared.rowing.Used.{Used}
use Rattle.channel_plan.specs.declared.serving.Chosen.{Chosen}

-- ---- which row serves a note

-- what a row is of, and its channels
pub record Head : Type 0 where
  pub port : ℕ
  pub part : Option ℕ
  pub channels : List ℕ

abbrev pub head : Used → Head
head u = record { port = u.port; part = u.part; channels = u.channels.items }

abbrev pub heads : List Used → List Head
heads rows = map head rows

abbrev pub serves_part : Option ℕ → ℕ → Bool
serves_part None c = true
serves_part (Some d) c = nat_eq d c

-- whether the notes of a channel of port z are given channels of a row
abbrev pub serves : Head → ℕ → ℕ → Bool
serves h z c = nat_eq h.port z && serves_part h.part c

abbrev pub some_serves : List Head → ℕ → ℕ → Bool
some_serves [] z c = false
some_serves (h ∷ hs) z c = serves h z c || some_serves hs z c

-- no two rows serve one note
abbrev pub IsApart : Head → Head → Type 0
IsApart g h = (z c : ℕ) → serves g z c ≡ true → serves h z c ≡ false

abbrev pub AreApart : List Head → Type 0
AreApart [] = Unit {0}
AreApart (h ∷ hs) = AllByRecursion (IsApart h) hs × AreApart hs

-- the row at a place is the one
pub record IsServedAt (rows : List Used) (z c i : ℕ) : Type 0 where
  pub within : i < length rows
  pub serves : (d : Used) → serves (head (get_or rows i d)) z c ≡ true

-- ---- what was given

-- the channel of a note, counted from 1
abbrev pub channel_of_note : List Given → ℕ → Option ℕ
channel_of_note gs n = or_of None (λ g. Some g.channel) (of_note gs n)

-- the place of the run that begins at a position, by the channel of its first note
abbrev pub place_by : Options → List MidiEvent → List Given → List ℕ → ℕ → ℕ
place_by o es gs used b = place_among used (unwrap_or (channel_of_note gs (notes_to o es b)) 0)

-- up to position k
abbrev pub Agrees : Options → List MidiEvent → List Given → List ℕ → ℕ → (ℕ → ℕ) → Type 0
Agrees o es gs used k row = (b : ℕ) → b ≤ k → row b ≡ place_by o es gs used b

-- the number of the run that begins at a position
abbrev pub number_on : Options → Targets → List MidiEvent → ℕ → ℕ → ℕ
number_on o table es z b = number_at (runs_on o table es z) b

-- ---- a row

-- the pairs whose runs are on a row
abbrev pub pairs_of : Options → Targets → List MidiEvent → Head → ℕ → List Pair
pairs_of o table es h k = pairs_on o (channels_in o h.part) table es h.port k

-- Of a source without a fault, a row with so many places: it has as many channels as are needed, and none of them twice.
pub record IsReady (o : Options) (table : Targets) (es : List MidiEvent) (h : Head) (n : ℕ) : Type 0 where
  pub of : IsRowOf o (channels_in o h.part) table es
  pub long : n ≡ length h.channels
  pub instant : ℕ
  pub need : IsNeedOf o (channels_in o h.part) table es h.port (length h.channels) instant
  pub own : (i : ℕ) → i < length h.channels → place_among h.channels (get_or h.channels i 0) ≡ i

-- each note so far has the channel of its run
abbrev pub HasGiven : Options → Targets → List MidiEvent → List Given → ℕ → Head → Type 0
HasGiven o table es gs k h = (row : ℕ → ℕ) → Agrees o es gs h.channels k row → (j : ℕ) (p : Pair) → j ≤ k
    → begun_at o (channels_in o h.part) table (port_at es h.port) j ≡ p ∷ []
    → channel_of_note gs (notes_to o es j) ≡ Some (channel_by h.channels row (pairs_of o table es h) j p)

-- A row at position k.
pub record RowStands (o : Options) (table : Targets) (es : List MidiEvent) (gs : List Given) (k : ℕ) (u : Used) : Type 0 where
  pub ready : IsReady o table es (head u) (length u.places.items)
  pub given : HasGiven o table es gs k (head u)
  pub stands : (row : ℕ → ℕ) → Agrees o es gs u.channels.items k row → StandsAt o table es row (number_on o table es u.port) k u

-- with the states that are kept before event k + 1
pub record RowKept (o : Options) (table : Targets) (es : List MidiEvent) (gs : List Given) (k : ℕ) (u : Used) : Type 0 where
  pub ready : IsReady o table es (head u) (length u.places.items)
  pub given : HasGiven o table es gs k (head u)
  pub kept : (row : ℕ → ℕ) → Agrees o es gs u.channels.items k row → IsKept o table es row (number_on o table es u.port) k u

-- and right after it, before a run begins
pub record RowFreed (o : Options) (table : Targets) (es : List MidiEvent) (gs : List Given) (k : ℕ) (u : Used) : Type 0 where
  pub ready : IsReady o table es (head u) (length u.places.items)
  pub given : HasGiven o table es gs k (head u)
  pub left : (row : ℕ → ℕ) → Agrees o es gs u.channels.items k row → is_reset_at (of_port u.port es) (suc k) ≡ false
      → StandsLeft o table es row (number_on o table es u.port) k u
  pub stays : (row : ℕ → ℕ) → Agrees o es gs u.channels.items k row
      → begun_at o (channels_in o u.part) table (port_at es u.port) (suc k) ≡ []
      → StandsAt o table es row (number_on o table es u.port) (suc k) u

-- ---- an event

-- Event k + 1 begins a note of a pair, and none of another.
pub record BeginsNote (o : Options) (table : Targets) (es : List MidiEvent) (k : ℕ) (e : MidiEvent) (p : Pair) : Type 0 where
  pub comes : ComesAt es k e
  pub within : k < length es
  pub part : is_part o p.part.channel ≡ true
  pub counted : notes_to o es (suc k) ≡ suc (notes_to o es k)
  pub plain : (z : ℕ) → is_reset_at (of_port z es) (suc k) ≡ false
  pub begun : bends_notes o.route ≡ true → (part : ℕ → Bool) (z : ℕ) → AreParts o part
      → begun_at o part table (port_at es z) (suc k) ≡ (if nat_eq p.part.port z && part p.part.channel then p ∷ [] else [])
  pub own : bends_notes o.route ≡ false → (z : ℕ) (q : Pair) → Begins o table es z (suc k) q
      → (z ≡ p.part.port) × (q.part.channel ≡ p.part.channel)
  pub runs : bends_notes o.route ≡ false → (z : ℕ)
      → runs_on o table es z (suc k) ≡ (if nat_eq p.part.port z then suc (runs_on o table es z k) else runs_on o table es z k)

-- it begins none
pub record BeginsNothing (o : Options) (table : Targets) (es : List MidiEvent) (k : ℕ) : Type 0 where
  pub counted : notes_to o es (suc k) ≡ notes_to o es k
  pub begun : (part : ℕ → Bool) (by : Targets) (z : ℕ) → AreParts o part → begun_at o part by (port_at es z) (suc k) ≡ []
  pub runs : bends_notes o.route ≡ false → (z : ℕ) → runs_on o table es z (suc k) ≡ runs_on o table es z k

-- ---- a note

-- what is given to a note of a pair that begins at position k + 1
pub record IsGiven (o : Options) (table : Targets) (es : List MidiEvent) (k : ℕ) (p : Pair) (x : Chosen) : Type 0 where
  pub run : x.run ≡ run_told o table es p.part.port (suc k) p
  pub count : runs_on o table es p.part.port (suc k) ≡ (if x.is_new then suc (runs_on o table es p.part.port k) else runs_on o table es p.part.port k)
  pub own : bends_notes o.route ≡ false → x.channel ≡ p.part.channel

abbrev pub given_as : Pair → Chosen → Given
given_as p x = record { port = p.part.port; channel = x.channel }

-- a note of a pair has a row that serves it, where notes are bent, and no two; and its port has a plan
pub record ServesNote (o : Options) (p : Pair) (ports : List PortPlan) (hs : List Head) : Type 0 where
  pub apart : AreApart hs
  pub served : bends_notes o.route ≡ true → some_serves hs p.part.port p.part.channel ≡ true
  pub planned : port_in ports p.part.port ≡ None → ⊥

-- ---- all notes up to position k

pub record NotesGiven (o : Options) (table : Targets) (es : List MidiEvent) (k : ℕ) (ports : List PortPlan) (gs : List Given)
    (rs : List ℕ) : Type 0 where
  pub given : length gs ≡ notes_to o es k
  pub numbered : length rs ≡ notes_to o es k
  pub counted : AllByRecursion (λ (p : PortPlan). p.runs ≡ runs_on o table es p.number k) ports
  pub few : AllByRecursion (λ (p : PortPlan). p.runs ≤ k) ports
  pub own : bends_notes o.route ≡ false → (z j : ℕ) (p : Pair) → j ≤ k → Begins o table es z j p
      → channel_of_note gs (notes_to o es j) ≡ Some p.part.channel
  pub runs : (z j : ℕ) (p : Pair) → j ≤ k → Begins o table es z j p → of_note rs (notes_to o es j) ≡ Some (run_told o table es z j p)
