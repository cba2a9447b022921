-- The events at a place.
use Rattle.std.proofs.Common.{◌≡◌, ℕ, zero, suc, ◌<◌, List, [], ◌∷◌, length, map, get_or, sym, ap, arith}
use Rattle.std.specs.Borrow.{Bor}
use Rattle.smf_read.specs.Views.{content_of}
use Rattle.midi_model.specs.FileText.{events_of}

pub at_place : (xs : List (Bor (List ℕ))) (i : ℕ) (x : Bor (List ℕ)) → i < length (map events_of (map content_of xs)) → x ≡ get_or xs i x → get_or (map events_of (map content_of xs)) i [] ≡ events_of x.now
at_place [] i x lt is = absurd (omega (arith, lt))
at_place (y ∷ xs) zero x lt is = ap (λ (z : Bor (List ℕ)). events_of z.now) (sym is)
at_place (y ∷ xs) (suc i) x lt is = at_place xs i x (omega (arith, lt)) is
