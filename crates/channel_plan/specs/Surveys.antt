-- What the first pass finds out of a source, position by position: which parts of each port have a note on, which ports have drums, and the
-- greatest numbers of pairs. `es` are all events, and k is the position to which the pass has come.
use Rattle.std.specs.Prelude.{◌≡◌, ◌<◌, ◌≤◌, ◌&&◌, ℕ, List, [], ◌∷◌, Bool, true, false, nat_eq, if◌then◌else◌, Option, Some, None, length, take, get_or, is_some, IfSome}
use Rattle.std.specs.List.{AllByRecursion}
use Rattle.mt_base.specs.Midi.{MidiEvent}
use Rattle.retune_model.specs.Options.{Options, Route, ByDump, ByLive, ByBend, ByMpe, has_drums}
use Rattle.retune_model.specs.Ports.{events_on}
use Rattle.retune_model.specs.Faults.{Targets, is_part}
use Rattle.retune_model.specs.PortNeed.{pairs_on}
use Rattle.retune_model.specs.SourceFaults.{first_fault}
use Rattle.lifetimes.specs.Noted.{IsNoted}
use Rattle.lifetimes.specs.Views.{fault_of}
use Rattle.lifetimes.specs.declared.change.Begun.{Begun}
use Rattle.channel_plan.specs.Passing.{channels_in}
use Rattle.channel_plan.specs.Counts.{IsEmpty}
use Rattle.channel_plan.specs.Tallies.{TallyStands}
use Rattle.channel_plan.specs.declared.fault.PlanFault.{PlanFault}
use Rattle.channel_plan.specs.declared.fault.PlanFault.TheVariants.{Source, Memory}
use Rattle.channel_plan.specs.declared.tally.Tally.{Tally}
use Rattle.channel_plan.specs.declared.survey.Counted.{Counted}
use Rattle.channel_plan.specs.declared.survey.Counted.TheVariants.{Nothing, Ports, Parts}
use Rattle.channel_plan.specs.declared.survey.Survey.{Survey}

-- what is counted on a route: on bend the pairs of all parts of a port, on MPE those of each part
abbrev pub IsCountedBy : Route → Counted → Type 0
IsCountedBy ByDump Nothing = Unit {0}
IsCountedBy ByLive Nothing = Unit {0}
IsCountedBy ByBend Ports = Unit {0}
IsCountedBy ByMpe Parts = Unit {0}
IsCountedBy _ _ = ⊥

abbrev pub counts_on : Options → Route → Option ℕ → Type 0
counts_on o ByBend None = Unit {0}
counts_on o ByMpe (Some c) = is_part o c ≡ true
counts_on o _ _ = ⊥

abbrev pub IsCounted : Options → Option ℕ → Type 0
IsCounted o part = counts_on o o.route part

-- ---- the tallies

abbrev pub is_same_part : Option ℕ → Option ℕ → Bool
is_same_part None None = true
is_same_part (Some c) (Some d) = nat_eq c d
is_same_part _ _ = false

-- what is counted by a tally: a port, or a part of it
abbrev pub key : Tally → ℕ × Option ℕ
key t = (t.port, t.part)

-- the tally of a port, or of a part of it
abbrev pub tally_in : List Tally → ℕ → Option ℕ → Option Tally
tally_in [] z part = None
tally_in (t ∷ ts) z part = if nat_eq t.port z && is_same_part t.part part then Some t else tally_in ts z part

-- the notes with which a note of a channel is counted, where it is
abbrev pub counted_with : Counted → ℕ → Option (Option ℕ)
counted_with Nothing c = None
counted_with Ports c = Some None
counted_with Parts c = Some (Some c)

-- there is a tally for a note that begins, where it is counted
abbrev pub HasTally : List Tally → ℕ → Option (Option ℕ) → Type 0
HasTally ts z None = Unit {0}
HasTally ts z (Some part) = is_some (tally_in ts z part) ≡ true

abbrev pub HasTallyOf : Counted → List Tally → Option Begun → Type 0
HasTallyOf counted ts None = Unit {0}
HasTallyOf counted ts (Some b) = HasTally ts b.pair.part.port (counted_with counted b.pair.part.channel)

-- a note that begins is of a retuned part
abbrev pub IsPartBegun : Options → Option Begun → Type 0
IsPartBegun o begun = IfSome begun (λ b. is_part o b.pair.part.channel ≡ true)

-- What is counted stands for the pairs up to position k, and what has no tally has no pairs so far.
pub record AreTallies (o : Options) (table : Targets) (es : List MidiEvent) (k : ℕ) (ts : List Tally) : Type 0 where
  pub stand : AllByRecursion (TallyStands o table es k) ts
  pub others : (z : ℕ) (part : Option ℕ) → IsCounted o part → tally_in ts z part ≡ None → (j : ℕ) → j ≤ k
      → pairs_on o (channels_in o part) table es z j ≡ []

-- ---- the survey

-- which ports have a message on channel 10
abbrev pub AreDrums : List MidiEvent → List Bool → Type 0
AreDrums es drums = (z : ℕ) → z < 256 → get_or drums z false ≡ has_drums (events_on z es)

pub record SurveysTo (o : Options) (table : Targets) (es : List MidiEvent) (k : ℕ) (s : Survey) : Type 0 where
  pub counted : IsCountedBy o.route s.counted
  pub noted : IsNoted o (take k es) s.noted
  pub drums : AreDrums (take k es) s.drums
  pub tallies : AreTallies o table es k s.tallies.items
  pub empty : IsEmpty s.empty
  -- a port is a byte
  pub high : (z : ℕ) → 256 ≤ z → events_on z (take k es) ≡ []

-- through all events
abbrev pub Surveys : Options → Targets → List MidiEvent → Survey → Type 0
Surveys o table es s = SurveysTo o table es (length es) s

-- why the first pass ends early: the first source fault, or want of memory
abbrev pub EndsPass : Options → Targets → List MidiEvent → PlanFault → Type 0
EndsPass o table es (Source f) = first_fault o table es ≡ Some (fault_of f)
EndsPass o table es Memory = Unit {0}
EndsPass o table es _ = ⊥
