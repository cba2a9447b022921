-- How the process ends.
use Rattle.std.specs.Prelude.{ℕ, ◌≡◌, ◌⊎◌, List}
use Rattle.mtune_files.specs.Outside.{Outside}
use Rattle.mtune_core.specs.declared.outcome.Fault.{Fault}
use Rattle.mtune_core.specs.Call.{IsDone, IsRefused}
use Rattle.mtune_core.specs.Status.{status_of}

-- Its status is 0 and all was done; or it is that of a fault that ended the work; or there was no memory for the words, and
-- nothing was done.
abbrev pub IsEnded : ℕ → Outside → Outside → List (List ℕ) → Type 0
IsEnded status before now words = ((status ≡ 0) × IsDone before now words)
    ⊎ (((fault : Fault) × (status ≡ status_of fault) × IsRefused before now words fault)
    ⊎ ((status ≡ 4) × (now ≡ before)))
