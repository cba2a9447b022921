-- The pressures that a pair's channel has, by those of the source keys, as the program gives them one after another.
use Rattle.std.specs.Prelude.{ℕ, List, [], ◌∷◌, ◌&&◌, nat_lt, slice_index, slice_set, if◌then◌else◌}
use Rattle.lifetimes.specs.declared.notes.Sounding.{Sounding}

-- the target key of a note gets the pressure of its source key; pressures has those of the source keys
abbrev pub pressed_by : List ℕ → Sounding → List ℕ → List ℕ
pressed_by pressures x keys =
    if nat_lt x.key 128 && nat_lt x.target 128 then slice_set keys x.target (slice_index pressures x.key) else keys

abbrev pub pressed_by_all : List ℕ → List Sounding → List ℕ → List ℕ
pressed_by_all pressures [] keys = keys
pressed_by_all pressures (x ∷ xs) keys = pressed_by_all pressures xs (pressed_by pressures x keys)
