-- The tables that scale changes hold (this project's own).
use Rattle.std.specs.Prelude.{ℕ, ◌-◌, List, length, slice_index}
use Rattle.key_pitch.specs.declared.table.KeyTable.{KeyTable}
use Rattle.key_pitch.specs.InForce.{ticks_of}
use Rattle.scale_changes.specs.declared.changes.Changes.{Changes}

-- each table with the tick from which it holds
abbrev pub tables_of : Changes → List (ℕ × KeyTable)
tables_of changes = changes.tables.items

-- the tick from which the last one holds
abbrev pub last_from : List (ℕ × KeyTable) → ℕ
last_from tables = slice_index (ticks_of tables) (length tables - 1)
