-- A port in which a pair got a place stands for what it stood for.
use Rattle.std.proofs.Common.{◌≡◌, ◌<◌, ◌∙◌, ℕ, zero, suc, ℤ, List, [], ◌∷◌, refl, sym, ap, subst, arith, length, take, drop, set, slice_index_or}
use Rattle.std.specs.List.{AllByRecursion}
use Rattle.mt_base.specs.Midi.{MidiEvent}
use Rattle.retune_model.specs.Options.{Options}
use Rattle.retune_model.specs.Faults.{Targets}
use Rattle.retune_model.specs.Rests.{is_within_tail}
use Rattle.receiver.specs.Stands.{PlayerStands}
use Rattle.lifetimes.specs.Lists.{ListsSounding, struck_at}
use Rattle.lifetimes.specs.Resting.{end_kept}
use Rattle.lifetimes.specs.Port.{struck_in, listed_in, rests_in}
use Rattle.lifetimes.specs.Stands.{PortStands, heard_on, sounds_on}
use Rattle.lifetimes.specs.declared.port.Port.{Port}
use Rattle.lifetimes.proofs.AllPorts.{numbers_of}
use Rattle.lifetimes.proofs.Taking.{StruckFor, RestsFor}

-- it keeps the same
pub record IsAlike (old new : Port) : Type 0 where
  pub number : new.number ≡ old.number
  pub player : new.player ≡ old.player
  pub struck : (c : ℕ) → c < 16 → struck_in new c ≡ struck_in old c
  pub listed : (c : ℕ) → c < 16 → listed_in new c ≡ listed_in old c
  pub rests : (c : ℕ) (q : ℤ) → c < 16 → end_kept (rests_in new c) q ≡ end_kept (rests_in old c) q

pub stands_alike : (o : Options) (table : Targets) (es : List MidiEvent) (old new : Port) → IsAlike old new → PortStands o table es old
    → PortStands o table es new
stands_alike o table es old new h s = record {
  player = subst (λ r. PlayerStands r (heard_on o new.number es)) (sym h.player)
      (subst (λ z. PlayerStands old.player (heard_on o z es)) (sym h.number) s.player);
  struck =
      λ c k x low below part is. ap (λ ss. struck_at ss k) (h.struck c low)
      ∙ subst (StruckFor o table es old) (sym h.number) s.struck c k x low below part is;
  listed = λ c low.
      subst (λ ss. ListsSounding ss (listed_in new c) (sounds_on o new.number es c)) (sym (h.struck c low))
      (subst (λ xs. ListsSounding (struck_in old c) xs (sounds_on o new.number es c)) (sym (h.listed c low))
      (subst (λ z. ListsSounding (struck_in old c) (listed_in old c) (sounds_on o z es c)) (sym h.number) (s.listed c low)));
  rests =
      λ c q t low part late. ap (is_within_tail o.tail t) (h.rests c q low)
      ∙ subst (RestsFor o table es old) (sym h.number) s.rests c q t low part late;
}

-- ---- one of a list

module _ (P : Port → Type 0) (d new : Port) where
  pub all_set : (u : ℕ) (ports : List Port) (i : ℕ) → (P (slice_index_or ports i d) → P new) → AllByRecursion P (take u ports)
      → AllByRecursion P (take u (set ports i new))
  all_set u [] i f a = a
  all_set zero (p ∷ ports) zero f a = tt
  all_set zero (p ∷ ports) (suc i) f a = tt
  all_set (suc u) (p ∷ ports) zero f a = (f a.0, a.1)
  all_set (suc u) (p ∷ ports) (suc i) f a = (a.0, all_set u ports i f a.1)

  pub all_set_behind : (u : ℕ) (ports : List Port) (i : ℕ) → (P (slice_index_or ports i d) → P new) → AllByRecursion P (drop u ports)
      → AllByRecursion P (drop u (set ports i new))
  all_set_behind u [] i f a = a
  all_set_behind zero (p ∷ ports) zero f a = (f a.0, a.1)
  all_set_behind zero (p ∷ ports) (suc i) f a = (a.0, all_set_behind zero ports i f a.1)
  all_set_behind (suc u) (p ∷ ports) zero f a = a
  all_set_behind (suc u) (p ∷ ports) (suc i) f a = all_set_behind u ports i f a

  pub all_set_there : (k : ℕ) (ports : List Port) (i : ℕ) → (P (slice_index_or ports i d) → P new)
      → AllByRecursion P (take 1 (drop k ports)) → AllByRecursion P (take 1 (drop k (set ports i new)))
  all_set_there k [] i f a = a
  all_set_there zero (p ∷ ports) zero f a = (f a.0, tt)
  all_set_there zero (p ∷ ports) (suc i) f a = (a.0, tt)
  all_set_there (suc k) (p ∷ ports) zero f a = a
  all_set_there (suc k) (p ∷ ports) (suc i) f a = all_set_there k ports i f a

pub numbers_alike : (u : ℕ) (ports : List Port) (i : ℕ) (d new : Port) → i < length ports → new.number ≡ (slice_index_or ports i d).number
    → numbers_of (take u (set ports i new)) ≡ numbers_of (take u ports)
numbers_alike u [] i d new l h = refl
numbers_alike zero (p ∷ ports) zero d new l h = refl
numbers_alike zero (p ∷ ports) (suc i) d new l h = refl
numbers_alike (suc u) (p ∷ ports) zero d new l h = ap (λ n. n ∷ numbers_of (take u ports)) h
numbers_alike (suc u) (p ∷ ports) (suc i) d new l h = ap (λ ns. p.number ∷ ns) (numbers_alike u ports i d new (omega (arith, l)) h)
