-- The steps of a scale as the program reads them.
use Rattle.std.proofs.Common.{◌≡◌, ℕ, zero, suc, ◌+◌, ◌-◌, ◌*◌, ◌<◌, ℤ, arith, refl, sym, ◌∙◌, ap, subst, List, [], ◌∷◌, ◌++◌, length, get_or, Some, slice_index_or}
use Rattle.std.specs.Prelude.{slice_get, nat_eq, if◌then◌else◌}
use Rattle.mt_base.specs.Pitch.{added}
use Rattle.scl_text.specs.declared.entry.Entry.{Entry}
use Rattle.scl_text.specs.declared.entry.Entry.TheVariants.{Ratio}
use Rattle.retune_model.specs.Scale.{step_at, pitch_of_step, ratios_at, ratios_of_step, ratio_of_step, repeated, size_of, floor_div, floor_rem, pitch_of_degree, terms_of_degree, ratios_of_degree}
use Rattle.key_pitch.specs.declared.sum.Sum.{Sum}
use Rattle.key_pitch.specs.Sums.{Sums}

-- an element that a list has at a place
pub element : {X : Type 0} (xs : List X) (i : ℕ) (x : X) → i < length xs → x ≡ slice_index_or xs i x → slice_get xs i ≡ Some x
element [] i x below is = absurd (let no : ⊥ = omega arith in no)
element (y ∷ ys) zero x below is = ap (λ z. Some z) (sym is)
element (y ∷ ys) (suc i) x below is = element ys i x (omega arith) is

pub step_there : (es : List Entry) (i : ℕ) (e : Entry) → slice_get es i ≡ Some e → get_or es i (Ratio 1 1) ≡ e
step_there [] i e is = absurd (let no : ⊥ = cc in no)
step_there (f ∷ es) zero e is = let same : f ≡ e = cc in same
step_there (f ∷ es) (suc i) e is = step_there es i e is

pub step_sums : (es : List Entry) (place : ℕ) (e : Entry) (s : Sum) → (place ≡ 0 → ⊥) → slice_get es (place - 1) ≡ Some e
    → Sums (pitch_of_step e) (ratios_of_step e) (ratio_of_step e) s → Sums (pitch_of_step (step_at es place)) (ratios_at es place) (ratio_of_step (step_at es place)) s
step_sums es zero e s some is h = absurd (some refl)
step_sums es (suc i) e s some is h =
    let at : suc i - 1 ≡ i = omega arith in
    let there = step_there es i e (ap (slice_get es) (sym at) ∙ is) in
    subst (λ t. Sums (pitch_of_step t) (ratios_of_step t) (ratio_of_step t) s) (sym there) h

-- a sum of q periods of n steps and a step
abbrev pub IsPlaced : List Entry → ℕ → ℤ → ℕ → Sum → Type 0
IsPlaced scale n q r s = Sums (added (repeated q (pitch_of_step (step_at scale n))) (pitch_of_step (step_at scale r))) (size_of q * ratios_at scale n + ratios_at scale r) ((if nat_eq (size_of q) 0 then [] else ratio_of_step (step_at scale n)) ++ ratio_of_step (step_at scale r)) s

pub degree_sums : (scale : List Entry) (d : ℤ) (n : ℕ) (q : ℤ) (r : ℕ) (s : Sum) → n ≡ length scale → q ≡ floor_div d n → r ≡ floor_rem d n → IsPlaced scale n q r s → Sums (pitch_of_degree scale d) (terms_of_degree scale d) (ratios_of_degree scale d) s
degree_sums scale d n q r s size quotient rest h =
    let a : IsPlaced scale n (floor_div d n) r s = subst (λ z. IsPlaced scale n z r s) quotient h in
    let b : IsPlaced scale n (floor_div d n) (floor_rem d n) s = subst (λ k. IsPlaced scale n (floor_div d n) k s) rest a in
    subst (λ k. IsPlaced scale k (floor_div d k) (floor_rem d k) s) size b
