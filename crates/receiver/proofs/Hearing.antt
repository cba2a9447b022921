-- What sounds on a key, by what is kept of its note and its pressure.
use Rattle.std.proofs.Common.{◌≡◌, ◌<◌, ℕ, true, List, length, set, slice_index, nat_eq, if◌then◌else◌, Option, Some, None, refl, ap, ◌∙◌, inl, inr, arith}
use Rattle.std.proofs.lemmas.List.{get_or-set_same, get_or-set_other, length-set}
use Rattle.std.proofs.lemmas.Nat.Bits.{bit_at_ones}
use Rattle.std.proofs.lemmas.Bool.Decides.{eqb_tells}
use Rattle.receiver.specs.declared.note.Struck.{Struck}
use Rattle.receiver.specs.Notes.{Told, has, new_note}
use Rattle.receiver.specs.Heard.{heard_by, begins_as, pressed}
use Rattle.receiver.specs.Turns.{kept}

-- the mask of all keys
pub has_all : (k : ℕ) → k < 128 → has 340282366920938463463374607431768211455 k ≡ true
has_all k below = ap (λ b. nat_eq b 1) (bit_at_ones 128 k below)

-- a pressure that a key has
pub pressing : (c k v p : ℕ) (o : Option Told) → heard_by c k v o ≡ kept (pressed v) (heard_by c k p o)
pressing c k v p None = refl
pressing c k v p (Some n) = refl

-- one key's pressure among all
pub at_key : (ps qs : List ℕ) (key v k : ℕ) → key < 128 → length qs ≡ 128 → qs ≡ set ps key v
    → slice_index qs k ≡ (if nat_eq k key then v else slice_index ps k)
at_key ps qs key v k below full e =
    let long : key < length ps = (let same = length-set ps key v in let eq = ap length e in omega (arith, same, eq, full, below)) in
    elim (eqb_tells k key) [
      | inl t ↦ rw (t.0, t.1, e) (get_or-set_same ps key v 0 long)
      | inr t ↦ rw (t.0, e) (get_or-set_other ps key k v 0 t.1)
    ]

-- what sounds once a key was pressed, and once it was struck
pub press_heard : (c k key v : ℕ) (ps qs : List ℕ) (o : Option Told) → slice_index qs k ≡ (if nat_eq k key then v else slice_index ps k)
    → heard_by c k (slice_index qs k) o ≡ (if nat_eq k key then kept (pressed v) (heard_by c k (slice_index ps k) o) else heard_by c k (slice_index ps k) o)
press_heard c k key v ps qs o e = ap (λ p. heard_by c k p o) e ∙ elim (eqb_tells k key) [
  | inl t ↦ rw t.0 (pressing c k v (slice_index ps k) o)
  | inr t ↦ rw t.0 refl
]

pub strike_heard : (c k key : ℕ) (s : Struck) (ps qs : List ℕ) (new old : Option Told) → slice_index qs k ≡ (if nat_eq k key then 0 else slice_index ps k)
    → new ≡ (if nat_eq k key then Some (new_note s) else old)
    → heard_by c k (slice_index qs k) new ≡ (if nat_eq k key then Some (s.number, begins_as c key s) else heard_by c k (slice_index ps k) old)
strike_heard c k key s ps qs new old e n =
    ap (λ p. heard_by c k p new) e
    ∙ ap (heard_by c k (if nat_eq k key then 0 else slice_index ps k)) n
    ∙ elim (eqb_tells k key) [
      | inl t ↦ rw (t.0, t.1) refl
      | inr t ↦ rw t.0 refl
    ]
