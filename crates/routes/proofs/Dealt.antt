-- Events dealt out to their tracks.
use Rattle.std.proofs.Common.{◌≡◌, ℕ, zero, suc, ◌+◌, List, [], ◌∷◌, map, get_or, subst, arith}
use Rattle.mt_base.specs.Midi.{Timed, placed}
use Rattle.midi_model.specs.Merged.{InOrder, AreTracksOf}

-- the events of a track of a file come in order
pub track_in_order : (n i t : ℕ) (ts : List (List Timed)) → n + i ≡ t → AreTracksOf n ts → InOrder (map (placed t) (get_or ts i []))
track_in_order n i t [] is h = tt
track_in_order n zero t (es ∷ ts) is h = let same : n ≡ t = omega (arith, is) in subst (λ m. InOrder (map (placed m) es)) same h.0.in_order
track_in_order n (suc i) t (es ∷ ts) is h = track_in_order (suc n) i t ts (omega (arith, is)) h.1
