-- The last event at which a run held its channel.
use Rattle.std.proofs.Common.{◌≡◌, ◌≤◌, ◌<◌, ℕ, zero, suc, List, Bool, true, false, cond, refl, ap, ◌∙◌, arith, inl, inr}
use Rattle.std.specs.Set.{is_member}
use Rattle.std.proofs.lemmas.Bool.{cases_lt, both_ways, false_from_ne_true}
use Rattle.retune_model.specs.Options.{Options}
use Rattle.retune_model.specs.Ports.{PortEvents}
use Rattle.retune_model.specs.Faults.{Targets}
use Rattle.retune_model.specs.Pairs.{Pair, is_same_pair}
use Rattle.retune_model.specs.Rests.{pairs_at, held_at, IsAimedPort}
use Rattle.retune_model.specs.RestLaws.{HeldWasThere, HeldNear, OneRunBegins}
use Rattle.channel_model.specs.Choice.{held_until}

abbrev Has : List Pair → Pair → Type 0
Has ps p = is_member is_same_pair ps p ≡ true

pub held_then : HeldWasThere → HeldNear → OneRunBegins → (o : Options) (part : ℕ → Bool) (table : Targets) (port : PortEvents) → IsAimedPort o part table port → (k : ℕ) (p : Pair)
    → Has (pairs_at o part table port k) p → Has (held_at o part table port (held_until (held_at o part table port) k p)) p
held_then within near begins_one o part table port aimed k p m = pick (is_member is_same_pair (held_at o part table port (suc k)) p) refl
  where
    before : (j : ℕ) → Has (pairs_at o part table port j) p → is_member is_same_pair (held_at o part table port (suc j)) p ≡ false → Has (held_at o part table port j) p
    before zero h e = absurd (both_ways (is_member is_same_pair (pairs_at o part table port 0) p) (ap (λ (ps : List Pair). is_member is_same_pair ps p) (begins_one o part table port 0 aimed).none) h)
    before (suc j) h e = elim (near o part table port aimed j p h) [
      | inl g ↦ g
      | inr g ↦ absurd (both_ways (is_member is_same_pair (held_at o part table port (suc (suc j))) p) e g)
    ]

    pick : (b : Bool) → is_member is_same_pair (held_at o part table port (suc k)) p ≡ b → Has (held_at o part table port (cond b (suc k) k)) p
    pick true e = e
    pick false e = before k m e

pub not_held_later : HeldWasThere → HeldNear → OneRunBegins → (o : Options) (part : ℕ → Bool) (table : Targets) (port : PortEvents) → IsAimedPort o part table port → (k : ℕ) (p : Pair) (j : ℕ)
    → held_until (held_at o part table port) k p < j → ((i : ℕ) → k < i → i < j → is_member is_same_pair (pairs_at o part table port i) p ≡ false) → is_member is_same_pair (held_at o part table port j) p ≡ false
not_held_later within near begins_one o part table port aimed k p zero l none = absurd (omega (arith, l))
not_held_later within near begins_one o part table port aimed k p (suc j) l none = elim (cases_lt k j) [
  | inl g ↦ false_from_ne_true (is_member is_same_pair (held_at o part table port (suc j)) p) (λ h. both_ways (is_member is_same_pair (pairs_at o part table port j) p) (none j g (omega arith)) (within o part table port aimed j p h))
  | inr g ↦ pick (is_member is_same_pair (held_at o part table port (suc k)) p) refl l g
]
  where
    pick : (b : Bool) → is_member is_same_pair (held_at o part table port (suc k)) p ≡ b → cond b (suc k) k < suc j → j ≤ k → is_member is_same_pair (held_at o part table port (suc j)) p ≡ false
    pick true e h g = absurd (omega (arith, h, g))
    pick false e h g = let same : j ≡ k = omega (arith, h, g) in ap (λ i. is_member is_same_pair (held_at o part table port (suc i)) p) same ∙ e
