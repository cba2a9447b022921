-- What the reader answers.
use Rattle.std.specs.Prelude.{ℕ, List, map, Option, Some, None, Result, Ok, Err, Vec}
use Rattle.std.specs.Borrow.{Bor}
use Rattle.scala_lines.specs.Reading.{Fault}
use Rattle.scale_changes.specs.declared.fault.ListKind.{ListKind}
use Rattle.scale_changes.specs.declared.fault.ListFault.{ListFault}
use Rattle.scale_changes.specs.declared.fault.ListFault.TheVariants.{At, Memory}
use Rattle.scale_changes.specs.Names.{Change}

-- a line and a kind, or None where memory ran out
abbrev pub seen : ListFault → Option (Fault ListKind)
seen (At line kind) = Some (record { line = line; kind = kind })
seen Memory = None

-- a tick and a name, without where the name lies in memory
abbrev pub change_as_told : ℕ × Bor (List ℕ) → Change
change_as_told c = (c.0, c.1.now)

-- the changes that were answered
abbrev pub told : {A : Type 0} → Result (Vec (ℕ × Bor (List ℕ)) A) ListFault → Result (List Change) ListFault
told (Ok changes) = Ok (map change_as_told changes.items)
told (Err e) = Err e
