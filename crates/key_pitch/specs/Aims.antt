-- What a table tells about a key (this project's own).
use Rattle.std.specs.Prelude.{ℕ, get_or, Option, Some, None}
use Rattle.key_pitch.specs.declared.aim.Aim.{Aim}
use Rattle.key_pitch.specs.declared.aim.Aim.TheVariants.{Unmapped, OutOfDevice, Mts, Bend}
use Rattle.key_pitch.specs.declared.table.KeyTable.{KeyTable}
use Rattle.key_pitch.specs.Views.{bounds_if}
use Rattle.retune_model.specs.Table.{Bounds, BendTarget, tuning_target, bend_target}

-- the bounds that the table has for a key
abbrev pub table_of : KeyTable → ℕ → Option Bounds
table_of t key = bounds_if (get_or t.pitches key None)

abbrev pub on_tuning : Option ℕ → Aim
on_tuning None = OutOfDevice
on_tuning (Some value) = Mts value

-- the target of a tuning message
abbrev pub tuning_aim : Option Bounds → Aim
tuning_aim None = Unmapped
tuning_aim (Some b) = on_tuning (tuning_target b)

abbrev pub on_bend : Option BendTarget → Aim
on_bend None = OutOfDevice
on_bend (Some t) = Bend t.key t.steps

-- the target of a bend at a sensitivity of so many semitones
abbrev pub bend_aim : ℕ → Option Bounds → Aim
bend_aim range None = Unmapped
bend_aim range (Some b) = on_bend (bend_target range b)

-- one table throughout
abbrev pub by_onset : KeyTable → ℕ → ℕ → Option Bounds
by_onset t key onset = table_of t key
