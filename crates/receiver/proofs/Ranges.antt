-- Zones that are set.
use Rattle.std.proofs.Common.{◌≡◌, ◌<◌, ◌⊎◌, ℕ, zero, suc, List, Some, refl, inl, inr, nat_eq, if◌then◌else◌, arith}
use Rattle.midi_model.specs.Channel.{Channel}
use Rattle.midi_model.specs.Zones.{Zones, zones_with, bend_ranges_from, bend_ranges_sized}

-- a zone by which of the two it is, and by its master
pub by_master : (m n : ℕ) (z : Zones) → (m ≡ 0) ⊎ (m ≡ 15) → zones_with (Some (if nat_eq m 0 then 0 else 15, n)) z ≡ zones_with (Some (m, n)) z
by_master m n z (inl e) = rw e refl
by_master m n z (inr e) = rw e refl

-- a zone with members gives bend sensitivities
pub with_members : (n m : ℕ) (z : Zones) (ss : List Channel) → 0 < n → bend_ranges_sized n m z ss ≡ bend_ranges_from z m 0 ss
with_members zero m z ss h = absurd (omega (arith, h))
with_members (suc n) m z ss h = refl
