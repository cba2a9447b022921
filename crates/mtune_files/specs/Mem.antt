-- What files in memory tell, and which of their calls fail.
use Rattle.std.specs.Prelude.{ℕ, ◌≡◌, ◌⊎◌, ◌==◌, List, [], ◌∷◌, map as map_list, Some, None, Bool, true, false, IsSome, if◌then◌else◌}
use Rattle.std.specs.declared.option.Option.{Option}
use Rattle.std.specs.FinMap as map
use Rattle.mtune_files.specs.Counts.{next_call}
use Rattle.mtune_files.specs.Names.{Held, content_at}
use Rattle.mtune_files.specs.Outside.{Outside}
use Rattle.mtune_files.specs.declared.mem.Entry.{Entry}
use Rattle.mtune_files.specs.declared.mem.Failure.{Failure}
use Rattle.mtune_files.specs.declared.mem.MemFiles.{MemFiles}

abbrev pub pair_of : Entry → List ℕ × List ℕ
pair_of e = (e.name.items, e.content.items)

-- what a log of writes holds, the newest first
abbrev pub held_by : List Entry → Held
held_by es = map.from_entries (map_list pair_of es)

abbrev pub names_of : MemFiles → Held
names_of m = held_by m.entries.items

-- ---- calls that are set to fail

-- a call, and after how many bytes it fails
abbrev pub setting_of : Failure → ℕ × ℕ
setting_of f = (f.call, f.bytes)

-- all settings, the newest first
abbrev pub settings_of : MemFiles → List (ℕ × ℕ)
settings_of m = map_list setting_of m.failing.items

-- what the newest setting for a call says
abbrev pub bytes_before : ℕ → List (ℕ × ℕ) → Option ℕ
bytes_before call [] = None
bytes_before call (s ∷ settings) = if s.0 == call then Some s.1 else bytes_before call settings

-- what is set for the next call
abbrev pub next_failure : MemFiles → Option ℕ
next_failure m = bytes_before (next_call m.calls) (settings_of m)

abbrev pub none_of : List (ℕ × ℕ) → Bool
none_of [] = true
none_of (s ∷ settings) = false

-- the next call is set to fail, or nothing is held at the name
abbrev pub FailsToLoad : MemFiles → List ℕ → Type 0
FailsToLoad m name = IsSome (next_failure m) ⊎ (content_at (names_of m) name ≡ None)

-- ---- what is told

abbrev pub outside_of : MemFiles → Outside
outside_of m = record {
  held = Some (names_of m);
  said = Some m.told.items;
  faults = m.faults;
  calls = m.calls;
  steady = none_of (settings_of m);
}

-- A call that is set to fail after so many bytes leaves these, where there was memory for them.
abbrev pub Leaves : {A : Type 0} → Option ℕ → (ℕ → A) → A → A → Type 0
Leaves None left before now = now ≡ before
Leaves (Some bytes) left before now = (now ≡ left bytes) ⊎ (now ≡ before)
