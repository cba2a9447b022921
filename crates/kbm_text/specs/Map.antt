-- A keyboard mapping as data (the Scala keyboard mapping format).
use Rattle.std.specs.Prelude.{ℕ, List, [], Option}

-- The keys to which it gives a pitch, from the first to the last; the middle key, which is that of entry 0; the reference
-- key and its frequency, in billionths of a hertz; the formal octave, which is how many degrees of the scale a repetition of
-- the entries goes up; and the degree of each entry, None where a key is left out. No entries: each key is the next degree.
pub record KeyMap : Type 0 where
  pub first : ℕ
  pub last : ℕ
  pub middle : ℕ
  pub reference : ℕ
  pub nanohertz : ℕ
  pub octave : ℕ
  pub entries : List (Option ℕ)

-- Without a mapping (this project's own choice): each key the next degree, from middle C at 261.6255653 Hz.
abbrev pub standard : KeyMap
standard = record { first = 0; last = 127; middle = 60; reference = 60; nanohertz = 261625565300; octave = 0; entries = [] }

-- The same from the A above it, at 440 Hz.
abbrev pub a440 : KeyMap
a440 = record { first = 0; last = 127; middle = 69; reference = 69; nanohertz = 440000000000; octave = 0; entries = [] }
