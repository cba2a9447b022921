-- What stands below a place of a tree.
use Rattle.std.proofs.Common.{◌≡◌, ℕ, zero, suc, ◌+◌, ◌-◌, ◌*◌, ◌/◌, ◌%◌, ◌^◌, ◌<◌, ◌≤◌, ◌⊎◌, List, length, set, get_or, min, refl, sym, ap, subst, ◌∙◌, inl, inr, arith, get_or-set_other}
use Rattle.std.proofs.Math.Nat.{pow-suc, mul-le-mul_left}
use Rattle.std.proofs.lemmas.Nat.{pow_pos}
use Rattle.std.proofs.lemmas.Bool.{cases_eq, cases_lt}
use Rattle.event_stream.specs.Tree.{IsTreeBut, IsBelowOthers, leaves}
use Rattle.event_stream.proofs.Trees.{halves, lower, leaf_at, count_leaves}

-- a place, or one below it: so many storeys lower, and so many places to the right of the first there
abbrev pub IsUnder : ℕ → ℕ → Type 0
IsUnder p j = (k : ℕ) × (r : ℕ) × (r < 2 ^ k) × (j ≡ p * 2 ^ k + r)

-- what is below a place is no less, where the places from it on are in order
least_below : (k x n s r j : ℕ) (tree : List ℕ) → IsTreeBut x n tree → x < s → r < 2 ^ k → j ≡ s * 2 ^ k + r → j < 2 * n → get_or tree s 0 ≤ get_or tree j 0
least_below zero x n s r j tree h low few is lt = let e : j ≡ s = omega (arith, few, is) in subst (λ m. get_or tree s 0 ≤ get_or tree m 0) (sym e) (omega arith)
least_below (suc k) x n s r j tree h low few is lt =
    let m = 2 ^ k in
    let double : 2 ^ suc k ≡ 2 * m = omega (arith, pow-suc 2 k) in
    let is2 : j ≡ s * (2 * m) + r = is ∙ ap (λ (z : ℕ). s * z + r) double in
    let few2 : r < 2 * m = omega (arith, few, double) in
    let grows : s * 1 ≤ s * m = mul-le-mul_left s (omega (arith, pow_pos k)) in
    let node = h s (omega (arith, low)) (omega (arith, is2, grows, lt)) (λ z. omega (arith, z, low)) in
    elim (cases_lt r m) [
      | inl left ↦
          let below = least_below k x n (2 * s) r j tree h (omega (arith, low)) left (omega (arith, is2)) lt in
          omega (arith, lower s (2 * s) tree node (inl refl), below)
      | inr right ↦
          let below = least_below k x n (2 * s + 1) (r - m) j tree h (omega (arith, low)) (omega (arith, few2, right)) (omega (arith, is2, right)) lt in
          omega (arith, lower s (2 * s + 1) tree node (inr refl), below)
    ]

pub no_less : (x n s j : ℕ) (tree : List ℕ) → IsTreeBut x n tree → x < s → IsUnder s j → j < 2 * n → get_or tree s 0 ≤ get_or tree j 0
no_less x n s j tree h low u lt = least_below u.0 x n s u.1 j tree h low u.2 u.3 lt

-- what is below a place is that place, or below one of the two below it
pub under_two : (p j : ℕ) → IsUnder p j → (j ≡ p) ⊎ (IsUnder (2 * p) j ⊎ IsUnder (2 * p + 1) j)
under_two p j (zero, r, few, is) = inl (omega (arith, few, is))
under_two p j (suc k, r, few, is) =
    let m = 2 ^ k in
    let double : 2 ^ suc k ≡ 2 * m = omega (arith, pow-suc 2 k) in
    let is2 : j ≡ p * (2 * m) + r = is ∙ ap (λ (z : ℕ). p * z + r) double in
    let few2 : r < 2 * m = omega (arith, few, double) in
    elim (cases_lt r m) [
      | inl left ↦ inr (inl (k, r, left, omega (arith, is2)))
      | inr right ↦ inr (inr (k, r - m, omega (arith, few2, right), omega (arith, is2, right)))
    ]

-- all places are below the first
under_first : (turns j : ℕ) → j ≤ turns → 0 < j → IsUnder 1 j
under_first zero j le some = absurd (omega (arith, le, some))
under_first (suc turns) j le some = elim (cases_eq j 1) [
  | inl one ↦ (0, 0, omega arith, omega (arith, one))
  | inr other ↦
      let h = halves j in
      elim h.1 [
        | inl even ↦
            let u = under_first turns h.0 (omega (arith, le, even, some)) (omega (arith, even, some)) in
            let double : 2 ^ suc u.0 ≡ 2 * 2 ^ u.0 = omega (arith, pow-suc 2 u.0) in
            (suc u.0, 2 * u.1, omega (arith, u.2, double), omega (arith, even, u.3, double))
        | inr odd ↦
            let u = under_first turns h.0 (omega (arith, le, odd, some)) (omega (arith, odd, some, other)) in
            let double : 2 ^ suc u.0 ≡ 2 * 2 ^ u.0 = omega (arith, pow-suc 2 u.0) in
            (suc u.0, 2 * u.1 + 1, omega (arith, u.2, double), omega (arith, odd, u.3, double))
      ]
]

-- a number that none of the leaves below a place, but one, is less than
abbrev pub IsBelowLeaves : ℕ → ℕ → ℕ → ℕ → List ℕ → Type 0
IsBelowLeaves others at leaf n tree = (j : ℕ) → n ≤ j → j < 2 * n → (j ≡ leaf → ⊥) → IsUnder at j → others ≤ get_or tree j 0

pub at_leaf : (others leaf n : ℕ) (tree : List ℕ) → n ≤ leaf → leaf < 2 * n → IsBelowLeaves others leaf leaf n tree
at_leaf others leaf n tree low lt j lowj ltj other (zero, r, few, is) = absurd (other (omega (arith, few, is)))
at_leaf others leaf n tree low lt j lowj ltj other (suc k, r, few, is) =
    let m = 2 ^ k in
    let double : 2 ^ suc k ≡ 2 * m = omega (arith, pow-suc 2 k) in
    let is2 : j ≡ leaf * (2 * m) + r = is ∙ ap (λ (z : ℕ). leaf * z + r) double in
    let grows : leaf * 1 ≤ leaf * m = mul-le-mul_left leaf (omega (arith, pow_pos k)) in
    absurd (omega (arith, is2, grows, ltj, low))

-- one storey up: beside is the number of the other place below the same one
pub one_up : (others beside at leaf n x : ℕ) (tree : List ℕ) → 1 < at → at / 2 < n → IsTreeBut (at / 2) n tree → IsBelowLeaves others at leaf n tree
    → (at % 2 ≡ 0 → beside ≡ get_or tree (at + 1) 0) → (at % 2 ≡ 1 → beside ≡ get_or tree (at - 1) 0)
    → IsBelowLeaves (min others beside) (at / 2) leaf n (set tree (at / 2) x)
one_up others beside at leaf n x tree more lt h below even odd j low ltj other u =
    let p = at / 2 in
    let apart : j ≡ p → ⊥ = λ z. omega (arith, z, low, lt) in
    let same : get_or (set tree p x) j 0 ≡ get_or tree j 0 = get_or-set_other tree p j x 0 apart in
    let is_least : min others beside ≤ get_or tree j 0 = elim (under_two p j u) [
      | inl here ↦ absurd (apart here)
      | inr (inl left) ↦ elim (cases_eq (at % 2) 0) [
        | inl e ↦ let is : 2 * p ≡ at = omega (arith, e) in omega (arith, below j low ltj other (subst (λ q. IsUnder q j) is left))
        | inr o ↦
            let one : at % 2 ≡ 1 = omega (arith, o) in
            let is : 2 * p ≡ at - 1 = omega (arith, one) in
            omega (arith, odd one, no_less p n (at - 1) j tree h (omega (arith, is, more)) (subst (λ q. IsUnder q j) is left) ltj)
      ]
      | inr (inr right) ↦ elim (cases_eq (at % 2) 0) [
        | inl e ↦
            let is : 2 * p + 1 ≡ at + 1 = omega (arith, e) in
            omega (arith, even e, no_less p n (at + 1) j tree h (omega (arith, is, more)) (subst (λ q. IsUnder q j) is right) ltj)
        | inr o ↦
            let one : at % 2 ≡ 1 = omega (arith, o) in
            let is : 2 * p + 1 ≡ at = omega (arith, one) in
            omega (arith, below j low ltj other (subst (λ q. IsUnder q j) is right))
      ]
    ] in
    rw same is_least

pub at_first : (others at leaf n : ℕ) (tree : List ℕ) → at ≡ 1 → 2 * n ≤ length tree → n ≤ leaf → IsBelowLeaves others at leaf n tree → IsBelowOthers others (leaf - n) (leaves n tree)
at_first others at leaf n tree one room low below i lt other =
    let small : i < n = omega (arith, lt, count_leaves n tree room) in
    let under = subst (λ q. IsUnder q (n + i)) (sym one) (under_first (n + i) (n + i) (omega arith) (omega (arith, small))) in
    rw (leaf_at n i tree 0 small) (below (n + i) (omega arith) (omega (arith, small)) (λ z. other (omega (arith, z))) under)

-- the lesser of a number and the one beside it is the lesser of the two below the place above
pub lesser : (least other at : ℕ) (tree : List ℕ) (x : ℕ) → x ≡ min least other → least ≡ get_or tree at 0
    → (at % 2 ≡ 0 → other ≡ get_or tree (at + 1) 0) → (at % 2 ≡ 1 → other ≡ get_or tree (at - 1) 0)
    → x ≡ min (get_or tree (2 * (at / 2)) 0) (get_or tree (2 * (at / 2) + 1) 0)
lesser least other at tree x is here even odd = elim (cases_eq (at % 2) 0) [
  | inl e ↦
      let left : 2 * (at / 2) ≡ at = omega (arith, e) in
      rw left (omega (arith, is, here, even e))
  | inr o ↦
      let one : at % 2 ≡ 1 = omega (arith, o) in
      let left : 2 * (at / 2) ≡ at - 1 = omega (arith, one) in
      let right : 2 * (at / 2) + 1 ≡ at = omega (arith, one) in
      rw (right, left) (omega (arith, is, here, odd one))
]
