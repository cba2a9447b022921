-- The exit status of a fault.
use Rattle.std.specs.Prelude.{ℕ, Option, Some, None}
use Rattle.mtune_core.specs.declared.outcome.Fault.{Fault}
use Rattle.mtune_core.specs.declared.outcome.Fault.TheVariants.{Usage, Load, TooLong, Scl, Kbm, ReferenceUnmapped, TooManyPeriods, Smf, Source, TooManyParts, TooManyChannels, Store, Say, Memory}

abbrev pub status_of : Fault → ℕ
status_of (Usage kind) = 1
status_of (TooLong which) = 2
status_of (Scl line kind) = 2
status_of (Kbm line kind) = 2
status_of (ReferenceUnmapped key) = 2
status_of (TooManyPeriods key) = 2
status_of (Smf offset kind) = 2
status_of (Source f) = 2
status_of (TooManyParts port parts) = 2
status_of (TooManyChannels t) = 2
status_of (Load which) = 3
status_of Store = 3
status_of Say = 3
status_of Memory = 4

-- 0, or the status of the fault
abbrev pub status_if : Option Fault → ℕ
status_if None = 0
status_if (Some fault) = status_of fault
