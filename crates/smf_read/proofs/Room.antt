-- What the bytes of a quantity say fits.
use Rattle.std.proofs.Common.{ℕ, zero, suc, ◌+◌, ◌*◌, ◌-◌, ◌^◌, ◌<◌, ◌≤◌, arith}
use Rattle.midi_model.specs.Reading.{room}

pub room_step : (t before d : ℕ) → 0 < t → t ≤ 3 → before < room t → d < 128 → before * 128 + d < room (t - 1)
room_step zero before d pos few small low = absurd (omega (arith, pos))
room_step (suc zero) before d pos few small low = omega (arith, small, low)
room_step (suc (suc zero)) before d pos few small low = omega (arith, small, low)
room_step (suc (suc (suc zero))) before d pos few small low = omega (arith, small, low)
room_step (suc (suc (suc (suc t)))) before d pos few small low = absurd (omega (arith, few))

pub room_low : (t before : ℕ) → before < room t → before < 2 ^ 21
room_low zero before small = small
room_low (suc zero) before small = omega (arith, small)
room_low (suc (suc zero)) before small = omega (arith, small)
room_low (suc (suc (suc t))) before small = omega (arith, small)
