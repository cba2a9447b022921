-- Laws of the output: each is a sentence about what is written for a source that isn't refused.
use Rattle.std.specs.Prelude.{true, ◌≡◌, ◌<◌, ◌≤◌, ◌^◌, ℕ, List, Bool, length}
use Rattle.midi_model.specs.FileText.{MidiFile}
use Rattle.midi_model.specs.Merged.{merged, IsPlayable}
use Rattle.midi_model.specs.Spelling.{Spells}
use Rattle.midi_model.specs.Writing.{file_bytes}
use Rattle.retune_model.specs.Table.{Scaling, IsTable, AreFewTerms}
use Rattle.retune_model.specs.Options.{Options, ByBend, ByMpe, bends_notes}
use Rattle.retune_model.specs.Faults.{Targets}
use Rattle.retune_model.specs.PlaysTheSame.{PlaysTheSame}
use Rattle.channel_plan.specs.Planned.{IsPlan}
use Rattle.channel_plan.specs.Refused.{IsTaken}
use Rattle.channel_plan.specs.declared.plan.Plan.{Plan}
use Rattle.mtune_core.specs.Asked.{AreInRange}
use Rattle.fewest_laws.specs.Fewest.{IsFewestOn, AreFewestIn}
use Rattle.mtune_core.specs.Limits.{input_limit}
use Rattle.mtune_core.specs.Output.{IsPlayableFile, HasShortTracks}
use Rattle.mtune_core.specs.Written.{IsWritten, planned_events, planned_file}

-- A source that isn't refused, with a plan of it on bend or MPE.
pub record IsSourceOf (o : Options) (allowed : ℕ → Bool) (table : Targets) (source : MidiFile) (plan : Plan) : Type 0 where
  pub playable : IsPlayableFile source
  pub bends : bends_notes o.route ≡ true
  pub range : AreInRange o
  pub taken : IsTaken o allowed table (merged source)
  pub is_plan : IsPlan o allowed table (merged source) plan

-- What is written by the plan can be written as a file like the source: it is valid, in order, and each track ends once.
abbrev pub PlannedIsPlayable : Type 0
PlannedIsPlayable = (o : Options) (allowed : ℕ → Bool) (table : Targets) (source : MidiFile) (plan : Plan)
    → IsSourceOf o allowed table source plan
    → IsPlayable (length source.tracks) (planned_events o.route o allowed table plan (merged source))

-- Each track of it fits in its chunk.
abbrev pub PlannedIsShort : Type 0
PlannedIsShort = (bytes : List ℕ) (o : Options) (allowed : ℕ → Bool) (table : Targets) (source : MidiFile) (plan : Plan)
    → Spells bytes source → length bytes ≤ input_limit → IsSourceOf o allowed table source plan
    → HasShortTracks (planned_file o allowed table plan source)

-- A source that is taken, and the file that is written for it.
pub record IsOutput (o : Options) (allowed : ℕ → Bool) (table : Targets) (source file : MidiFile) : Type 0 where
  pub playable : IsPlayableFile source
  pub range : AreInRange o
  pub taken : IsTaken o allowed table (merged source)
  pub written : IsWritten o.route o allowed table source file

-- The bytes of the output of a source that some input spells spell the output.
abbrev pub OutputIsSpelt : Type 0
OutputIsSpelt = (bytes : List ℕ) (source file : MidiFile) (o : Options) (allowed : ℕ → Bool) (table : Targets) → Spells bytes source
    → length bytes ≤ input_limit → source.division < 2 ^ 16 → IsOutput o allowed table source file → Spells (file_bytes file) file

-- In a table that gives a key the same bounds at each tick, the output plays the same.
abbrev pub OutputPlaysTheSame : Type 0
OutputPlaysTheSame = (scaling : Scaling) (o : Options) (allowed : ℕ → Bool) (table : Targets) (source file : MidiFile)
    → IsTable scaling table → AreFewTerms scaling → ((key onset : ℕ) → table key onset ≡ table key 0)
    → IsOutput o allowed table source file → PlaysTheSame scaling o table source file

-- It uses the fewest channels: on bend on each port, and on MPE in each zone.
abbrev pub BentUsesFewest : Type 0
BentUsesFewest = (o : Options) (allowed : ℕ → Bool) (table : Targets) (source file : MidiFile) → o.route ≡ ByBend
    → IsOutput o allowed table source file → (z : ℕ) → IsFewestOn o allowed table (merged source) (merged file) z

abbrev pub ZonedUsesFewest : Type 0
ZonedUsesFewest = (o : Options) (allowed : ℕ → Bool) (table : Targets) (source file : MidiFile) → o.route ≡ ByMpe
    → IsOutput o allowed table source file → (z : ℕ) → AreFewestIn o table (merged source) (merged file) z
