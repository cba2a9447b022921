-- What is kept in mind of each port.
use Rattle.std.specs.Prelude.{ℕ, ◌+◌, ◌*◌, Bool, false, ◌&&◌, nat_eq, if◌then◌else◌, Option, Some, None, get_or}
use Rattle.mpe_route.specs.declared.kept.Kept.{Kept}
use Rattle.mpe_route.specs.declared.caused.Played.{Played}

-- whether a channel message of the port came
abbrev pub begun_in : Kept → ℕ → Bool
begun_in k z = get_or k.begun z false

-- the bend that was sent last to a channel of the port since the last reset
abbrev pub bend_in : Kept → ℕ → ℕ → ℕ
bend_in k z d = get_or k.bends (z * 16 + d) 0

-- the same with one bend more, and after a reset of the port
abbrev pub with_bend : ℕ → ℕ → ℕ → (ℕ → ℕ → ℕ) → ℕ → ℕ → ℕ
with_bend port channel bend bends z d = if nat_eq z port && nat_eq d channel then bend else bends z d

abbrev pub without_bends : ℕ → (ℕ → ℕ → ℕ) → ℕ → ℕ → ℕ
without_bends port bends z d = if nat_eq z port then 8192 else bends z d

-- after an event of a port, which may be a reset, or begin a note
abbrev pub with_note : ℕ → Option Played → (ℕ → ℕ → ℕ) → ℕ → ℕ → ℕ
with_note port (Some n) bends z d = with_bend port n.channel n.bend bends z d
with_note port None bends z d = bends z d

abbrev pub reset_if : ℕ → Bool → (ℕ → ℕ → ℕ) → ℕ → ℕ → ℕ
reset_if port reset bends z d = if reset then without_bends port bends z d else bends z d

abbrev pub bends_after : ℕ → Bool → Option Played → (ℕ → ℕ → ℕ) → ℕ → ℕ → ℕ
bends_after port reset played bends z d = with_note port played (reset_if port reset bends) z d
