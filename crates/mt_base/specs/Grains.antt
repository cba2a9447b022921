-- The unit of pitch (this project's own): 32,000,000,000 grains are a cent. So a nanocent, a step of 1/16384 semitone (MIDI Tuning
-- Standard), a step of fine tuning, and one of a bend at a sensitivity of whole cents (MIDI 1.0) are each a whole number of grains.
use Rattle.std.specs.Prelude.{ℕ}

unfoldable pub octave : ℕ
octave = 38400000000000
