-- What a device is told of a key, and the pitch of that (this project's own).
use Rattle.std.specs.Prelude.{ℕ, ◌*◌, ◌<◌, ◌≤◌, ◌^◌, ℤ, pos, ◌+ℤ◌, ◌*ℤ◌, Option, Some, None, option_map}
use Rattle.retune_model.specs.Options.{ByDump, ByBend, half_step}
use Rattle.retune_model.specs.Table.{Bounds, BendTarget, tuning_target, bend_target}
use Rattle.key_report.specs.declared.target.Target.{Target}
use Rattle.key_report.specs.declared.target.Target.TheVariants.{Value, Bend}

-- a device: of tuning messages, or of bends at a sensitivity of 1 to 96 semitones
abbrev pub IsDevice : Option ℕ → Type 0
IsDevice None = Unit {0}
IsDevice (Some range) = (1 ≤ range) × (range ≤ 96)

-- the target of a key with these bounds, if the device has one
abbrev pub bent_to : BendTarget → Target
bent_to t = Bend t.key t.steps

abbrev pub target_of : Option ℕ → Bounds → Option Target
target_of None b = option_map Value (tuning_target b)
target_of (Some range) b = option_map bent_to (bend_target range b)

abbrev pub target_if : Option ℕ → Option Bounds → Option Target
target_if range None = None
target_if range (Some b) = target_of range b

-- the finest step of a device, in grains: 1/16384 semitone (MIDI Tuning Standard), or 1/8192 of the sensitivity
abbrev pub step_of : Option ℕ → ℕ
step_of None = 195312500
step_of (Some range) = 390625000 * range

abbrev pub half_step_of : Option ℕ → ℕ
half_step_of None = half_step ByDump 0
half_step_of (Some range) = half_step ByBend range

-- what a target tells, in grains above key 0: a semitone is 3,200,000,000,000
abbrev pub told_grains : Option ℕ → Target → ℤ
told_grains range (Value value) = pos (195312500 * value)
told_grains range (Bend key steps) = pos (3200000000000 * key) +ℤ pos (step_of range) *ℤ steps

-- a value of three bytes of a tuning message, which are 21 bits
abbrev pub FitsThreeBytes : Target → Type 0
FitsThreeBytes (Value value) = value < 2 ^ 21
FitsThreeBytes (Bend key steps) = Unit {0}
