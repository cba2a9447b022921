-- A number that waits outside a tree of numbers.
use Rattle.std.proofs.Common.{◌≡◌, ℕ, zero, suc, ◌+◌, ◌*◌, ◌<◌, ◌≤◌, List, length, set, get_or, replicate, refl, sym, ap, ◌∙◌, inl, inr, arith, get_or-set_same}
use Rattle.std.specs.Prelude.{Contains}
use Rattle.std.proofs.lemmas.List.{length-set, set-get_or, get_or-replicate}
use Rattle.event_stream.specs.Tree.{IsLeast, leaves, numbers_in}
use Rattle.event_stream.proofs.Trees.{leaf_at, count_leaves}

pub count_numbers : (n place number : ℕ) (tree : List ℕ) → 2 * n ≤ length tree → length (numbers_in n tree place number) ≡ n
count_numbers n place number tree room = length-set (leaves n tree) place number ∙ count_leaves n tree room

-- the number in the place itself is one of them
pub waits_among : (n place number : ℕ) (tree : List ℕ) → 2 * n ≤ length tree → place < n → Contains (numbers_in n tree place number) number
waits_among n place number tree room lt =
    let low : place < length (leaves n tree) = omega (arith, lt, count_leaves n tree room) in
    (place, omega (arith, lt, count_numbers n place number tree room), get_or-set_same (leaves n tree) place number number low)

-- where its leaf has it, the numbers are the leaves
pub in_its_leaf : (n place number : ℕ) (tree : List ℕ) → get_or (leaves n tree) place 0 ≡ number → numbers_in n tree place number ≡ leaves n tree
in_its_leaf n place number tree is = ap (set (leaves n tree) place) (sym is) ∙ set-get_or (leaves n tree) place 0

pub not_waiting : (n place number rival : ℕ) (tree : List ℕ) → IsLeast n tree place number rival → rival ≤ number → numbers_in n tree place number ≡ leaves n tree
not_waiting n place number rival tree h le = elim h.in_place [
  | inl is ↦ in_its_leaf n place number tree is
  | inr low ↦ absurd (omega (arith, low, le))
]

pub put_into_leaf : (n place number : ℕ) (tree before : List ℕ) → place < length before → leaves n tree ≡ set before place number → get_or (leaves n tree) place 0 ≡ number
put_into_leaf n place number tree before lt is = ap (λ l. get_or l place 0) is ∙ get_or-set_same before place number 0 lt

pub same_numbers : (n place number : ℕ) (tree before : List ℕ) → place < length before → leaves n tree ≡ set before place number → numbers_in n tree place number ≡ set before place number
same_numbers n place number tree before lt is = in_its_leaf n place number tree (put_into_leaf n place number tree before lt is) ∙ is

pub set_replicate : (n x : ℕ) → set (replicate n x) 0 x ≡ replicate n x
set_replicate zero x = refl
set_replicate (suc n) x = refl

pub first_of_all : (n x : ℕ) → 0 < n → 2 * n ≤ 2048 → get_or (leaves n (replicate 2048 x)) 0 0 ≡ x
first_of_all n x some room = leaf_at n 0 (replicate 2048 x) 0 some ∙ get_or-replicate 2048 (n + 0) x 0 (omega (arith, room, some))
