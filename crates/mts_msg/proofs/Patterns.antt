use Rattle.std.proofs.Common.{◌≡◌, ◌≤◌, ℕ, List, [], ◌∷◌, length, map, false, refl, arith}
use Rattle.midi_model.specs.Sysex.{begins}
use Rattle.mts_msg.specs.Patterns.{wanted_of}
use Rattle.mts_msg.specs.declared.pattern.Place.{Place}

-- what is wanted of a byte isn't there
pub lacks : (places : List Place) (bytes : List ℕ) → 1 ≤ length places → length bytes ≡ 0 → false ≡ begins (map wanted_of places) bytes
lacks [] bytes some none = absurd (omega (arith, some))
lacks (p ∷ ps) [] some none = refl
lacks (p ∷ ps) (b ∷ bs) some none = absurd (omega (arith, none))
