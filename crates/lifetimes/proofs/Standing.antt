-- What stands at the place of a port: the port, or one that waits for it.
use Rattle.std.proofs.Common.{◌≡◌, ◌≤◌, ◌<◌, ℕ, zero, suc, List, [], ◌∷◌, length, refl, subst, slice_index_or, arith, drop, inl, inr}
use Rattle.std.specs.List.{AllByRecursion}
use Rattle.std.proofs.lemmas.Bool.{cases_lt}
use Rattle.mt_base.specs.Midi.{MidiEvent}
use Rattle.retune_model.specs.Faults.{Targets}
use Rattle.retune_model.specs.FaultLaws.{FaultlessPorts}
use Rattle.retune_model.specs.PortLaws.{MusicAtAPosition}
use Rattle.lifetimes.specs.Views.{options_of}
use Rattle.lifetimes.specs.Stands.{PortStands, SourceStands, place_of, numbers_in}
use Rattle.lifetimes.specs.declared.port.Port.{Port}
use Rattle.lifetimes.specs.declared.source.Source.{Source}
use Rattle.lifetimes.proofs.Opening.{port_opens}
use Rattle.lifetimes.proofs.Places.{of_each, here, none_here, unused}

-- what is so of all behind a place is so of what stands there
at_head : {X : Type 0} (P : X → Type 0) (xs : List X) (i : ℕ) (d : X) → i < length xs → AllByRecursion P (drop i xs) → P (slice_index_or xs i d)
at_head P [] i d within h = absurd (omega (arith, within))
at_head P (x ∷ xs) zero d within h = h.0
at_head P (x ∷ xs) (suc i) d within h = at_head P xs i d (omega (arith, within)) h

pub stands_at : MusicAtAPosition → FaultlessPorts → (table : Targets) (s : Source) (es : List MidiEvent) (z i : ℕ) (x : Port) → SourceStands table s es
    → i ≡ place_of s z → i ≤ s.used → i < length s.ports → PortStands (options_of s.options) table es (record (slice_index_or s.ports i x) { number = z })
stands_at music fine table s es z i x stands at few within = elim (cases_lt i s.used) [
  | inl lt ↦ (let y : Port = slice_index_or s.ports i x in
      let number : y.number ≡ z = here (λ (p : Port). p.number) s.ports s.used z i y x at lt within refl in
      subst (λ n. PortStands (options_of s.options) table es (record y { number = n })) number
      (of_each (PortStands (options_of s.options) table es) s.ports s.used i y x lt within refl stands.ports))
  | inr le ↦ (let same : s.used ≡ i = omega (arith, le, few) in
      let y : Port = slice_index_or s.ports i x in
      port_opens music fine (options_of s.options) table es z y stands.faultless
      (unused z (numbers_in s) _ stands.numbers (none_here (λ (p : Port). p.number) s.ports s.used z i at le))
      (at_head (PortStands (options_of s.options) table []) s.ports i x within
      (subst (λ n. AllByRecursion (PortStands (options_of s.options) table []) (drop n s.ports)) same stands.waiting)))
]
