-- What a failing say or store leaves, as every implementation may leave it.
use Rattle.std.proofs.Common.{◌≡◌, ℕ, List, [], ◌++◌, take, drop, false, cond, Some, Result, Ok, Err, refl, ap, sym, ◌∙◌, inl, inr}
use Rattle.std.specs.Prelude.{OnOk, OnErr}
use Rattle.std.specs.FinMap.{insert, get-insert, slice_cmp-IsAntisymmetric, nat_cmp-IsAntisymmetric}
use Rattle.std.specs.Cmp.Lexicographic.{slice_cmp, nat_list_cmp_total}
use Rattle.std.specs.Ordering.{nat_cmp, is_eq, eq_by_cmp}
use Rattle.std.specs.declared.cmp.Ordering.TheVariants.{Less, Equal, Greater}
use Rattle.std.proofs.lemmas.List.{take-append-drop, append-nil}
use Rattle.mtune_files.specs.Mem.{Leaves}
use Rattle.mtune_files.specs.Names.{Held, content_at, IsSameBut, AppendsFront}

-- a front of the text, or nothing of it
pub appends_front : (text before now : List ℕ) (n : ℕ) → Leaves (Some n) (λ k. before ++ take k text) before now → AppendsFront text (Some before) (Some now)
appends_front text before now n h = elim h [
  | inl e ↦ (take n text, drop n text, sym (take-append-drop n text), e)
  | inr e ↦ ([], text, refl, e ∙ sym (append-nil before))
]

not_tied : (x y : List ℕ) → (x ≡ y → ⊥) → eq_by_cmp (slice_cmp nat_cmp) x y ≡ false
not_tied x y n = elim (slice_cmp nat_cmp x y) as (λ r. slice_cmp nat_cmp x y ≡ r → is_eq r ≡ false) [
  | Less ↦ λ e. refl
  | Equal ↦ λ e. absurd (n (slice_cmp-IsAntisymmetric nat_cmp-IsAntisymmetric x y e))
  | Greater ↦ λ e. refl
] refl

inserted_at_other : (h : Held) (name content other : List ℕ) → (other ≡ name → ⊥) → content_at (insert h name content) other ≡ content_at h other
inserted_at_other h name content other n =
    get-insert nat_list_cmp_total h name content other ∙ ap (λ b. cond b (Some content) (content_at h other)) (not_tied other name n)

-- whether the front was stored or not, each other name holds what it held
pub same_but : {E : Type 0} (r : Result Unit E) (before now : Held) (name content : List ℕ) → OnOk r (now ≡ insert before name content) → OnErr r (now ≡ before)
    → IsSameBut name (Some before) (Some now)
same_but (Ok u) before now name content ok err = λ other n. ap (λ h. content_at h other) ok ∙ inserted_at_other before name content other n
same_but (Err e) before now name content ok err = λ other n. ap (λ h. content_at h other) err
