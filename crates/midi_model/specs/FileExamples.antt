-- Short forms for worked files.
use Rattle.std.specs.Prelude.{ℕ, List, [], ◌∷◌, length}
use Rattle.mt_base.specs.Midi.{Timed, MidiWhat}

-- the bytes of a file of format 0 with division 96, whose only track has these fewer than 256 bytes of content, from
-- offset 22 on
abbrev pub one_track : List ℕ → List ℕ
one_track content =
    0x4d ∷ 0x54 ∷ 0x68 ∷ 0x64 ∷ 0x00 ∷ 0x00 ∷ 0x00 ∷ 0x06 ∷ 0x00 ∷ 0x00 ∷ 0x00 ∷ 0x01 ∷ 0x00 ∷ 0x60 ∷ 0x4d ∷ 0x54 ∷ 0x72 ∷ 0x6b ∷ 0x00 ∷ 0x00 ∷ 0x00 ∷ length content ∷ content

-- the bytes of a header chunk, up to its division
abbrev pub header_of : ℕ → ℕ → ℕ → List ℕ
header_of format high low = 0x4d ∷ 0x54 ∷ 0x68 ∷ 0x64 ∷ 0x00 ∷ 0x00 ∷ 0x00 ∷ 0x06 ∷ 0x00 ∷ format ∷ high ∷ low ∷ 0x00 ∷ 0x60 ∷ []

abbrev pub at : ℕ → MidiWhat → Timed
at tick what = record { tick = tick; what = what }
