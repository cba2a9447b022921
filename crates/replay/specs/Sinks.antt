-- Where messages go, by what holds of it after a list of messages, of which at most a number and one more matter.
use Rattle.std.specs.Prelude.{ℕ, List, ◌++◌}
use Rattle.mt_base.specs.declared.event.Msg.{Msg}

-- it goes from one value to another by these messages
abbrev pub Puts : {A : Type 0} → (ℕ → A → List Msg → Type 0) → A → A → List Msg → Type 0
Puts holds old new ms = (most : ℕ) (before : List Msg) → holds most old before → holds most new (before ++ ms)

-- no further message changes it
abbrev pub IsDone : {A : Type 0} → (ℕ → A → List Msg → Type 0) → A → Type 0
IsDone holds s = (most : ℕ) (before ms : List Msg) → holds most s before → holds most s (before ++ ms)
