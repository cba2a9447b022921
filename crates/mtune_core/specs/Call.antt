-- How a call ends: the outside before it and after.
use Rattle.std.specs.Prelude.{ℕ, ◌≡◌, ◌⊎◌, List}
use Rattle.retune_model.specs.Faults.{Targets}
use Rattle.mtune_files.specs.Outside.{Outside, after_store, AfterFailedStore, after_say, AfterFailedSay}
use Rattle.command_line.specs.Words.{Command, Read, Wrong, reading_of}
use Rattle.mtune_core.specs.declared.outcome.Fault.{Fault}
use Rattle.mtune_core.specs.declared.outcome.Fault.TheVariants.{Usage, Store, Say, Memory}
use Rattle.mtune_core.specs.Inputs.{Input, InputStops, after_input}
use Rattle.mtune_core.specs.Lines.{fault_line}
use Rattle.mtune_core.specs.Retuned.{IsRetuned}
use Rattle.mtune_core.specs.Table.{Tuning, IsOneTable, scaling_of, TableFrom, TableCause, after_texts}

-- ---- before the store

-- What was made for a command: of its scale and mapping, of one table of them, and of its input.
pub record IsPrepared (o : Outside) (c : Command) (output report : List ℕ) : Type 0 where
  pub tuning : Tuning o c
  pub table : Targets
  pub is_table : IsOneTable (scaling_of tuning) table
  pub input : Input o c
  pub retuned : IsRetuned (scaling_of tuning) c table input.bytes output report

pub record IsMade (o : Outside) (words : List (List ℕ)) : Type 0 where
  pub command : Command
  pub output : List ℕ
  pub report : List ℕ
  pub is_command : reading_of words ≡ Read command
  pub is_prepared : IsPrepared o command output report

-- The work stopped before there was a table; or at the input, once there was one.
abbrev pub CommandCause : Command → Outside → Outside → Fault → Type 0
CommandCause c before now fault = TableCause c before now fault
    ⊎ ((table : Targets) × TableFrom before c table × InputStops c.sample c table (after_texts c before) now fault)

-- ---- the call

-- each content was loaded once, and nothing else was done
abbrev pub after_loads : Command → Outside → Outside
after_loads c o = after_input c (after_texts c o)

-- and then the output was stored
abbrev pub stored_for : (before : Outside) (words : List (List ℕ)) → IsMade before words → Outside
stored_for before words m = after_store m.command.out m.output (after_loads m.command before)

-- After the loads the output was stored and the report was said, each once.
abbrev pub IsDone : Outside → Outside → List (List ℕ) → Type 0
IsDone before now words = (m : IsMade before words) × (now ≡ after_say m.report (stored_for before words m))

-- a command was read, and the work for it stopped before the store
abbrev pub StopsAt : Outside → Outside → List (List ℕ) → Fault → Type 0
StopsAt before now words fault = (c : Command) × (reading_of words ≡ Read c) × CommandCause c before now fault

-- The fault ended the work, and nothing was done after it. Memory may be wanting for the words already.
abbrev pub IsStopped : Outside → Outside → List (List ℕ) → Fault → Type 0
IsStopped before now words (Usage kind) = (reading_of words ≡ Wrong kind) × (now ≡ before)
IsStopped before now words Store = (m : IsMade before words) × AfterFailedStore m.command.out (after_loads m.command before) now
IsStopped before now words Say = (m : IsMade before words) × AfterFailedSay m.report (stored_for before words m) now
IsStopped before now words Memory = (now ≡ before) ⊎ StopsAt before now words Memory
IsStopped before now words fault = StopsAt before now words fault

-- The line of the fault was said, or that failed; after a failed say nothing more is said.
abbrev pub IsTold : Outside → Outside → Fault → Type 0
IsTold before now Say = now ≡ before
IsTold before now fault = (now ≡ after_say (fault_line fault) before)
    ⊎ AfterFailedSay (fault_line fault) before now

-- The fault ended the work, and then it was told.
abbrev pub IsRefused : Outside → Outside → List (List ℕ) → Fault → Type 0
IsRefused before now words fault = (stopped : Outside) × IsStopped before stopped words fault
    × IsTold stopped now fault
