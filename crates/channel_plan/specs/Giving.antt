-- What is given to the notes of a source that fits: channels and runs.
use Rattle.std.specs.Prelude.{◌≡◌, ◌<◌, ◌≤◌, ◌↔◌, ℕ, suc, List, [], Bool, true, false, ◌&&◌, nat_eq, if◌then◌else◌, Some, None, IsSome, length}
use Rattle.std.specs.List.{AllByRecursion}
use Rattle.mt_base.specs.Midi.{MidiEvent, MidiWhat, SysexOf}
use Rattle.midi_model.specs.Sysex.{is_reset}
use Rattle.retune_model.specs.Options.{Options, Route, ByBend, ByMpe, bends_notes}
use Rattle.retune_model.specs.Ports.{events_on}
use Rattle.retune_model.specs.Faults.{Targets, is_part}
use Rattle.retune_model.specs.Pairs.{Pair}
use Rattle.retune_model.specs.Places.{nth}
use Rattle.retune_model.specs.Dump.{has_note_on}
use Rattle.channel_model.specs.Rows.{zones_on, zone_row}
use Rattle.channel_model.specs.MpeOutput.{Zone as ZoneOf}
use Rattle.channel_plan.specs.Told.{port_in, channel_in, run_in, run_count_in}
use Rattle.channel_plan.specs.Planned.{GivesChannels, Begins, notes_to, note_ons, run_told, runs_on, bend_row}
use Rattle.channel_plan.specs.Serving.{Head, heads, AreApart, some_serves, RowStands, RowKept, RowFreed, NotesGiven}
use Rattle.channel_plan.specs.declared.plan.PortPlan.{PortPlan}
use Rattle.channel_plan.specs.declared.plan.Plan.{Plan}
use Rattle.channel_plan.specs.declared.rowing.Used.{Used}
use Rattle.channel_plan.specs.declared.giving.Giving.{Giving}

-- what is planned for a port, but for the number of its runs
abbrev pub without_runs : PortPlan → PortPlan
without_runs p = record p { runs = 0 }

-- A plan that gives each note its channel and its run, and counts the runs of each port.
pub record Gives (o : Options) (allowed : ℕ → Bool) (table : Targets) (es : List MidiEvent) (plan : Plan) : Type 0 where
  pub channels : GivesChannels o.route o allowed table es plan
  pub notes : (n : ℕ) → IsSome (channel_in plan n) ↔ ((0 < n) × (n ≤ length (note_ons o es)))
  pub runs : (z k : ℕ) (p : Pair) → Begins o table es z k p → run_in plan (notes_to o es k) ≡ Some (run_told o table es z k p)
  pub run_count : (z : ℕ) → run_count_in plan z ≡ runs_on o table es z (length es)

-- ---- as the ports' plans have it

-- one run more on a port
abbrev pub with_run : ℕ → PortPlan → PortPlan
with_run z p = if nat_eq p.number z then record p { runs = suc p.runs } else p

-- ---- the rows

-- the channels that the row of a port has, on bend, or that of a part of it on MPE
abbrev pub HasChannels : Route → Options → (ℕ → Bool) → Targets → List MidiEvent → Head → Type 0
HasChannels ByBend o allowed table es h = (h.part ≡ None) × (h.channels ≡ bend_row o allowed table es h.port)
HasChannels ByMpe o allowed table es h = IsSome h.part × ((zone : ZoneOf) (i : ℕ) → nth i (zones_on o table es h.port) ≡ Some zone
    → h.part ≡ Some zone.part → h.channels ≡ zone_row zone)
HasChannels _ o allowed table es h = ⊥

-- Each retuned note has a row that serves it, and no two do, where notes are bent; where they aren't, there are no rows.
pub record AreHeads (o : Options) (allowed : ℕ → Bool) (table : Targets) (es : List MidiEvent) (hs : List Head) : Type 0 where
  pub apart : AreApart hs
  pub served : bends_notes o.route ≡ true → (z c : ℕ) → c < 16 → is_part o c ≡ true → has_note_on (λ d. nat_eq d c) (events_on z es) ≡ true
      → some_serves hs z c ≡ true
  pub channels : AllByRecursion (HasChannels o.route o allowed table es) hs

-- the rows of a source before any event
pub record AreRows (o : Options) (allowed : ℕ → Bool) (table : Targets) (es : List MidiEvent) (rows : List Used) : Type 0 where
  pub heads : AreHeads o allowed table es (heads rows)
  pub stand : AllByRecursion (RowStands o table es [] 0) rows

-- ---- event by event

-- whether an event is a reset
abbrev pub is_reset_by : MidiWhat → Bool
is_reset_by (SysexOf lead bytes) = nat_eq lead 240 && is_reset bytes
is_reset_by _ = false

-- what is given so far, at position k
pub record Goes (o : Options) (table : Targets) (es : List MidiEvent) (k : ℕ) (ports : List PortPlan) (g : Giving) : Type 0 where
  pub rows : AllByRecursion (RowStands o table es g.given.items k) g.rows.items
  pub notes : NotesGiven o table es k ports g.given.items g.runs.items

-- the same before event k + 1, with the states that are kept, and right after it, before a run begins
pub record GoesKept (o : Options) (table : Targets) (es : List MidiEvent) (k : ℕ) (ports : List PortPlan) (g : Giving) : Type 0 where
  pub rows : AllByRecursion (RowKept o table es g.given.items k) g.rows.items
  pub notes : NotesGiven o table es k ports g.given.items g.runs.items

pub record GoesFreed (o : Options) (table : Targets) (es : List MidiEvent) (k : ℕ) (ports : List PortPlan) (g : Giving) : Type 0 where
  pub rows : AllByRecursion (RowFreed o table es g.given.items k) g.rows.items
  pub notes : NotesGiven o table es k ports g.given.items g.runs.items

-- each note has a row that serves it, where notes are bent, and no two; and its port has a plan
pub record ServesAll (o : Options) (es : List MidiEvent) (ports : List PortPlan) (hs : List Head) : Type 0 where
  pub apart : AreApart hs
  pub served : bends_notes o.route ≡ true → (z c : ℕ) → c < 16 → is_part o c ≡ true → has_note_on (λ d. nat_eq d c) (events_on z es) ≡ true
      → some_serves hs z c ≡ true
  pub planned : (z : ℕ) → port_in ports z ≡ None → has_note_on (is_part o) (events_on z es) ≡ false
