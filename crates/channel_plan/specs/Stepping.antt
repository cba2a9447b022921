-- A row of channels in use, as the program keeps it, from one position of a source to the next.
--
-- `es` are all events of the source. `row b` is the place of the run that begins at position b, and `number b` the number of that run:
-- any two functions that agree with what was given so far.
use Rattle.std.specs.Prelude.{◌≡◌, ℕ, suc, List, [], ◌∷◌, true, false, Some, take, get_or}
use Rattle.mt_base.specs.Midi.{MidiEvent}
use Rattle.retune_model.specs.Options.{Options}
use Rattle.retune_model.specs.Ports.{port_at, of_port, is_reset_at}
use Rattle.retune_model.specs.Faults.{Targets}
use Rattle.retune_model.specs.Pairs.{Pair, is_same_pair}
use Rattle.retune_model.specs.Rests.{begun_at}
use Rattle.retune_model.specs.Runs.{since}
use Rattle.retune_model.specs.PortNeed.{pairs_on}
use Rattle.plan_laws.specs.Placing.{Seen, seen_at}
use Rattle.plan_laws.specs.Counting.{ComesAt}
use Rattle.plan_laws.specs.Rows.{kept, IsRowOf, IsRowAt, IsRowLeft}
use Rattle.channel_plan.specs.Passing.{channels_in}
use Rattle.channel_plan.specs.Seeing.{all_seen, runs_in}
use Rattle.channel_plan.specs.declared.rowing.Used.{Used}
use Rattle.channel_plan.specs.declared.rowing.Placed.{Placed}

-- the pairs whose runs are on a row
abbrev pub pairs_by : Options → Targets → List MidiEvent → Used → ℕ → List Pair
pairs_by o table es used k = pairs_on o (channels_in o used.part) table es used.port k

-- what its places say
abbrev pub seen_in : Used → List Seen
seen_in used = all_seen used.places.items

abbrev pub run_in : Used → ℕ → ℕ
run_in used c = get_or (runs_in used.places.items) c 0

-- the number that a run of a pair has at a position
abbrev pub run_of : Options → Targets → List MidiEvent → (ℕ → ℕ) → Used → Pair → ℕ → ℕ
run_of o table es at used p k = at (since is_same_pair (pairs_by o table es used) p k)

-- each pair on a place has there the number of its run
abbrev pub AreNumbered : Options → Targets → List MidiEvent → (ℕ → ℕ) → ℕ → Used → Type 0
AreNumbered o table es number k used = (c : ℕ) (p : Pair) → (seen_at (seen_in used) c).pair ≡ Some p
    → run_in used c ≡ run_of o table es number used p k

-- The source has no fault, and the pairs are those of retuned parts.
abbrev pub IsUsedOf : Options → Targets → List MidiEvent → Used → Type 0
IsUsedOf o table es used = IsRowOf o (channels_in o used.part) table es

-- A row at position k.
pub record StandsAt (o : Options) (table : Targets) (es : List MidiEvent) (row number : ℕ → ℕ) (k : ℕ) (used : Used) : Type 0 where
  pub places : IsRowAt o (channels_in o used.part) table es used.port row k (seen_in used)
  pub runs : AreNumbered o table es number k used

-- The same with the states that are kept before event k + 1.
pub record IsKept (o : Options) (table : Targets) (es : List MidiEvent) (row number : ℕ → ℕ) (k : ℕ) (used : Used) : Type 0 where
  pub before : List Seen
  pub places : IsRowAt o (channels_in o used.part) table es used.port row k before
  pub same : seen_in used ≡ kept o table (take k es) before
  pub runs : AreNumbered o table es number k used

-- Right after event k + 1, no reset, when the places of the pairs that it ends are free, and before a run begins.
pub record StandsLeft (o : Options) (table : Targets) (es : List MidiEvent) (row number : ℕ → ℕ) (k : ℕ) (used : Used) : Type 0 where
  pub places : IsRowLeft o (channels_in o used.part) table es used.port row k (seen_in used)
  pub runs : AreNumbered o table es number k used

-- Event k + 1 is no reset of the port, and begins a note of a pair of the row.
pub record BeginsOn (o : Options) (table : Targets) (es : List MidiEvent) (row number : ℕ
    → ℕ) (k : ℕ) (e : MidiEvent) (p : Pair) (used : Used) : Type 0 where
  pub of : IsUsedOf o table es used
  pub comes : ComesAt es k e
  pub left : StandsLeft o table es row number k used
  pub plain : is_reset_at (of_port used.port es) (suc k) ≡ false
  pub begun : begun_at o (channels_in o used.part) table (port_at es used.port) (suc k) ≡ p ∷ []

-- The row agrees with what a note that begins at position k + 1 is given, where that is a new run.
abbrev pub AgreesWith : (ℕ → ℕ) → (ℕ → ℕ) → ℕ → Placed → Type 0
AgreesWith row number k x = x.is_new ≡ true → (row (suc k) ≡ x.place) × (number (suc k) ≡ x.run)

-- The note of a pair that begins at position k + 1 is given the place of the pair's run, and the run's number.
pub record IsPlaced (o : Options) (table : Targets) (es : List MidiEvent) (row number : ℕ
    → ℕ) (k : ℕ) (p : Pair) (x : Placed) (used : Used) : Type 0 where
  pub stands : StandsAt o table es row number (suc k) used
  pub place : run_of o table es row used p (suc k) ≡ x.place
  pub run : run_of o table es number used p (suc k) ≡ x.run
