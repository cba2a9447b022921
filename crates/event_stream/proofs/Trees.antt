-- The first place of a tree holds the least of its leaves.
use Rattle.std.proofs.Common.{◌≡◌, ℕ, zero, suc, ◌+◌, ◌-◌, ◌*◌, ◌/◌, ◌<◌, ◌≤◌, ◌⊎◌, List, [], ◌∷◌, length, set, get_or, take, drop, replicate, min, refl, sym, ap, subst, ◌∙◌, inl, inr, arith, get_or-set_same, get_or-set_other}
use Rattle.std.specs.Prelude.{All, Contains}
use Rattle.std.proofs.lemmas.Bool.{cases_eq, cases_lt}
use Rattle.std.proofs.lemmas.List.{get_or-replicate, get_or-take, get_or-drop, get_or_default, drop-set-add, drop-set-lt, length-take, length-drop}
use Rattle.std.proofs.lemmas.List.Elements.{All-from_get_or}
use Rattle.event_stream.specs.Tree.{IsTree, IsTreeBut}

pub halves : (i : ℕ) → (p : ℕ) × ((i ≡ 2 * p) ⊎ (i ≡ 2 * p + 1))
halves zero = (0, inl refl)
halves (suc zero) = (0, inr refl)
halves (suc (suc i)) = let h = halves i in (suc h.0, elim h.1 [ inl e ↦ inl (omega (arith, e)) | inr e ↦ inr (omega (arith, e)) ])

-- what is below a place is no less
pub lower : (p i : ℕ) (tree : List ℕ) → get_or tree p 0 ≡ min (get_or tree (2 * p) 0) (get_or tree (2 * p + 1) 0) → (i ≡ 2 * p) ⊎ (i ≡ 2 * p + 1) → get_or tree p 0 ≤ get_or tree i 0
lower p i tree node (inl e) = subst (λ m. get_or tree p 0 ≤ get_or tree m 0) (sym e) (omega (arith, node))
lower p i tree node (inr e) = subst (λ m. get_or tree p 0 ≤ get_or tree m 0) (sym e) (omega (arith, node))

above : (p i n : ℕ) → (i ≡ 2 * p) ⊎ (i ≡ 2 * p + 1) → 1 < i → i < 2 * n → (0 < p) × (p < n) × (p < i)
above p i n (inl e) more lt = (omega (arith, e, more), omega (arith, e, lt), omega (arith, e, more))
above p i n (inr e) more lt = (omega (arith, e, more), omega (arith, e, lt), omega (arith, e, more))

root_least : (turns n i : ℕ) (tree : List ℕ) → IsTree n tree → i ≤ turns → 0 < i → i < 2 * n → get_or tree 1 0 ≤ get_or tree i 0
root_least zero n i tree h le some lt = absurd (omega (arith, le, some))
root_least (suc turns) n i tree h le some lt = elim (cases_eq i 1) [
  | inl one ↦ subst (λ m. get_or tree 1 0 ≤ get_or tree m 0) (sym one) (omega arith)
  | inr other ↦
      let p = halves i in
      let up = above p.0 i n p.1 (omega (arith, some, other)) lt in
      let node = lower p.0 i tree (h p.0 up.0 up.1 (λ z. omega (arith, z, up.0))) p.1 in
      let top = root_least turns n p.0 tree h (omega (arith, le, up.2)) up.0 (omega (arith, up.1)) in
      omega (arith, node, top)
]

chosen : (a b c : ℕ) → a ≡ min b c → (a ≡ b) ⊎ (a ≡ c)
chosen a b c e = elim (cases_lt b c) [
  | inl l ↦ inl (omega (arith, e, l))
  | inr l ↦ inr (omega (arith, e, l))
]

abbrev IsLeaf : ℕ → ℕ → List ℕ → Type 0
IsLeaf n i tree = (j : ℕ) × (j < n) × (get_or tree i 0 ≡ get_or tree (n + j) 0)

root_among : (turns n i : ℕ) (tree : List ℕ) → IsTree n tree → 2 * n ≤ turns + i → 0 < i → i < 2 * n → IsLeaf n i tree
root_among zero n i tree h le some lt = absurd (omega (arith, le, lt))
root_among (suc turns) n i tree h le some lt = elim (cases_lt i n) [
  | inl inner ↦ elim (chosen _ _ _ (h i some inner (λ z. omega (arith, z, some)))) [
    | inl left ↦
        let r = root_among turns n (2 * i) tree h (omega (arith, le, some)) (omega (arith, some)) (omega (arith, inner)) in
        (r.0, r.1, left ∙ r.2)
    | inr right ↦
        let r = root_among turns n (2 * i + 1) tree h (omega (arith, le, some)) (omega arith) (omega (arith, inner)) in
        (r.0, r.1, right ∙ r.2)
  ]
  | inr leaf ↦ (i - n, omega (arith, leaf, lt), let e : i ≡ n + (i - n) = omega (arith, leaf) in ap (λ m. get_or tree m 0) e)
]

-- ---- the leaves

pub leaf_at : (n j : ℕ) (tree : List ℕ) (d : ℕ) → j < n → get_or (take n (drop n tree)) j d ≡ get_or tree (n + j) d
leaf_at n j tree d lt = get_or-take n (drop n tree) j d lt ∙ get_or-drop n tree j d

pub count_leaves : (n : ℕ) (tree : List ℕ) → 2 * n ≤ length tree → length (take n (drop n tree)) ≡ n
count_leaves n tree room = omega (arith, length-take n (drop n tree), length-drop n tree, room)

pub least_of : (n : ℕ) (tree : List ℕ) → 0 < n → 2 * n ≤ length tree → IsTree n tree → All (λ (k : ℕ). get_or tree 1 0 ≤ k) (take n (drop n tree))
least_of n tree some room h = All-from_get_or (λ (k : ℕ). get_or tree 1 0 ≤ k) (take n (drop n tree)) 0 (λ i lt.
    let low : i < n = omega (arith, lt, count_leaves n tree room) in
    subst (λ k. get_or tree 1 0 ≤ k) (sym (leaf_at n i tree 0 low)) (root_least (n + i) n (n + i) tree h (omega arith) (omega (arith, some)) (omega (arith, low))))

pub among_them : (n : ℕ) (tree : List ℕ) → 0 < n → 2 * n ≤ length tree → IsTree n tree → Contains (take n (drop n tree)) (get_or tree 1 0)
among_them n tree some room h =
    let r = root_among (2 * n) n 1 tree h (omega arith) (omega arith) (omega (arith, some)) in
    let lt : r.0 < length (take n (drop n tree)) = omega (arith, r.1, count_leaves n tree room) in
    (r.0, lt, get_or_default (take n (drop n tree)) r.0 (get_or tree 1 0) 0 lt ∙ leaf_at n r.0 tree 0 r.1 ∙ sym r.2)

-- ---- a number is changed

other_place : (i a x : ℕ) (tree : List ℕ) → get_or tree i 0 ≡ min (get_or tree (2 * i) 0) (get_or tree (2 * i + 1) 0) → (i ≡ a → ⊥) → (2 * i ≡ a → ⊥) → (2 * i + 1 ≡ a → ⊥)
    → get_or (set tree a x) i 0 ≡ min (get_or (set tree a x) (2 * i) 0) (get_or (set tree a x) (2 * i + 1) 0)
other_place i a x tree node n1 n2 n3 = rw (get_or-set_other tree a i x 0 n1, get_or-set_other tree a (2 * i) x 0 n2, get_or-set_other tree a (2 * i + 1) x 0 n3) node

pub leaf_changed : (n j x : ℕ) (tree : List ℕ) → IsTree n tree → IsTreeBut ((n + j) / 2) n (set tree (n + j) x)
leaf_changed n j x tree h i some lt other =
    other_place i (n + j) x tree (h i some lt (λ z. omega (arith, z, some))) (λ z. omega (arith, z, lt)) (λ z. other (omega (arith, z))) (λ z. other (omega (arith, z)))

pub place_mended : (n a : ℕ) (tree : List ℕ) → 0 < a → a < length tree → IsTreeBut a n tree → IsTreeBut (a / 2) n (set tree a (min (get_or tree (2 * a) 0) (get_or tree (2 * a + 1) 0)))
place_mended n a tree pos room h i some lt other = elim (cases_eq i a) [
  | inl same ↦
      let x = min (get_or tree (2 * a) 0) (get_or tree (2 * a + 1) 0) in
      let here : get_or (set tree a x) a 0 ≡ min (get_or (set tree a x) (2 * a) 0) (get_or (set tree a x) (2 * a + 1) 0) =
      get_or-set_same tree a x 0 room ∙ sym (rw (get_or-set_other tree a (2 * a) x 0 (λ z. omega (arith, z, pos)), get_or-set_other tree a (2 * a + 1) x 0 (λ z. omega (arith, z, pos))) refl) in
      subst (λ m. get_or (set tree a x) m 0 ≡ min (get_or (set tree a x) (2 * m) 0) (get_or (set tree a x) (2 * m + 1) 0)) (sym same) here
  | inr apart ↦ other_place i a _ tree (h i some lt apart) apart (λ z. other (omega (arith, z))) (λ z. other (omega (arith, z)))
]

take_set : (n i x : ℕ) (xs : List ℕ) → take n (set xs i x) ≡ set (take n xs) i x
take_set zero i x xs = refl
take_set (suc n) i x [] = refl
take_set (suc n) zero x (y ∷ xs) = refl
take_set (suc n) (suc i) x (y ∷ xs) = ap (λ l. y ∷ l) (take_set n i x xs)

pub leaves_changed : (n j x : ℕ) (tree : List ℕ) → take n (drop n (set tree (n + j) x)) ≡ set (take n (drop n tree)) j x
leaves_changed n j x tree = ap (take n) (drop-set-add n tree j x) ∙ take_set n j x (drop n tree)

pub leaves_stay : (n a x : ℕ) (tree : List ℕ) → a < n → take n (drop n (set tree a x)) ≡ take n (drop n tree)
leaves_stay n a x tree lt = ap (take n) (drop-set-lt n tree a x lt)

pub all_equal : (n size x : ℕ) → 2 * n ≤ size → IsTree n (replicate size x)
all_equal n size x room i some lt other =
    get_or-replicate size i x 0 (omega (arith, lt, room))
    ∙ sym (rw (get_or-replicate size (2 * i) x 0 (omega (arith, lt, room)), get_or-replicate size (2 * i + 1) x 0 (omega (arith, lt, room))) (omega arith))
