-- What the files of the system tell: how many calls were made and how many failed.
use Rattle.std.specs.Prelude.{None, false}
use Rattle.mtune_files.specs.Outside.{Outside}
use Rattle.mtune_files.specs.Counts.{no_calls}
use Rattle.mtune_real.specs.declared.real.RealFiles.{RealFiles}

abbrev pub outside_of : RealFiles → Outside
outside_of f = record { held = None; said = None; faults = f.faults; calls = f.calls; steady = false }

-- before any call
abbrev pub nothing_told : Outside
nothing_told = record { held = None; said = None; faults = no_calls; calls = no_calls; steady = false }
