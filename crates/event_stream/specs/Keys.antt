-- The next event of each track, as a number: the least is the next of the merged order.
use Rattle.std.specs.Prelude.{ℕ, suc, ◌+◌, ◌*◌, List, [], ◌∷◌, map}
use Rattle.mt_base.specs.Midi.{Timed, placed}
use Rattle.midi_model.specs.Merged.{InOrder}

-- by tick and then by track; a track without events has the greatest number
abbrev pub key_of : ℕ → List Timed → ℕ
key_of track [] = 0xffffffffffffffff
key_of track (e ∷ es) = e.tick * 65536 + track

-- of tracks, the first of which has a number
abbrev pub keys_of : ℕ → List (List Timed) → List ℕ
keys_of track [] = []
keys_of track (es ∷ ts) = key_of track es ∷ keys_of (suc track) ts

-- each track's events are in order
abbrev pub AreInOrder : ℕ → List (List Timed) → Type 0
AreInOrder track [] = Unit {0}
AreInOrder track (es ∷ ts) = InOrder (map (placed track) es) × AreInOrder (suc track) ts
