-- What tables tell that hold from some ticks on (this project's own).
use Rattle.std.specs.Prelude.{◌≡◌, ℕ, List, [], ◌∷◌, Option, Some, None, unwrap_or}
use Rattle.key_pitch.specs.declared.table.KeyTable.{KeyTable}
use Rattle.key_pitch.specs.declared.by_tick.TablesByTick.{TablesByTick}
use Rattle.key_pitch.specs.InForce.{in_force}
use Rattle.key_pitch.specs.Aims.{table_of}
use Rattle.scl_text.specs.declared.entry.Entry.{Entry}
use Rattle.kbm_text.specs.Map.{KeyMap}
use Rattle.retune_model.specs.Table.{Bounds, Scaling, IsTable, AreFewTerms, one_scale}

-- each table with the tick from which it holds
abbrev pub entries_of : TablesByTick → List (ℕ × KeyTable)
entries_of t = t.entries.now

abbrev pub table_if : Option KeyTable → ℕ → Option Bounds
table_if None key = None
table_if (Some t) key = table_of t key

-- the bounds that the table in force has for a key
abbrev pub by_entries : List (ℕ × KeyTable) → ℕ → ℕ → Option Bounds
by_entries entries key onset = table_if (in_force onset entries) key

-- the scale in force at each tick, where each scale stands with the tick from which it holds
abbrev pub scales_in_force : List (ℕ × List Entry) → KeyMap → Scaling
scales_in_force scales m = record { scale_at = λ tick. unwrap_or (in_force tick scales) []; mapping = m }

-- the tables of these scales, each from the tick of its scale on
abbrev pub AreTablesOf : List (ℕ × List Entry) → KeyMap → List (ℕ × KeyTable) → Type 0
AreTablesOf [] m [] = Unit {0}
AreTablesOf (s ∷ scales) m (t ∷ tables) = (s.0 ≡ t.0) × IsTable (one_scale s.1 m) (λ key onset. table_of t.1 key) × AreFewTerms (one_scale s.1 m) × AreTablesOf scales m tables
AreTablesOf _ m _ = ⊥

-- a scale has this table wherever it stands in a list
abbrev pub HasTable : List Entry → KeyTable → List (ℕ × List Entry) → List (ℕ × KeyTable) → Type 0
HasTable scale table [] [] = Unit {0}
HasTable scale table (s ∷ scales) (t ∷ tables) = (scale ≡ s.1 → table ≡ t.1) × HasTable scale table scales tables
HasTable scale table _ _ = ⊥

-- A scale that comes again has the table that it had.
abbrev pub AreOnePerScale : List (ℕ × List Entry) → List (ℕ × KeyTable) → Type 0
AreOnePerScale [] [] = Unit {0}
AreOnePerScale (s ∷ scales) (t ∷ tables) = HasTable s.1 t.1 scales tables × AreOnePerScale scales tables
AreOnePerScale _ _ = ⊥
