-- The tests of two parts and of two pairs decide whether they are the same.
use Rattle.std.proofs.Common.{◌≡◌, ℕ, ℤ, pos, negsuc, true, refl, ap, sym, ◌∙◌, nat_eq}
use Rattle.std.specs.Bool.{Decides}
use Rattle.std.proofs.lemmas.Bool.{eqb-true, eq-eqb, and_from, and_parts}
use Rattle.retune_model.specs.Faults.{int_eq}
use Rattle.retune_model.specs.Pairs.{Part, Pair, is_same_part, is_same_pair}

same_int : (a b : ℤ) → int_eq a b ≡ true → a ≡ b
same_int (pos a) (pos b) h = ap pos (eqb-true a b h)
same_int (negsuc a) (negsuc b) h = ap negsuc (eqb-true a b h)
same_int (pos a) (negsuc b) h = absurd cc
same_int (negsuc a) (pos b) h = absurd cc

int_itself : (a : ℤ) → int_eq a a ≡ true
int_itself (pos a) = eq-eqb a a refl
int_itself (negsuc a) = eq-eqb a a refl

abbrev of_port : ℕ → ℕ → Part
of_port z c = record { port = z; channel = c }

pub same_part : (p q : Part) → is_same_part p q ≡ true → p ≡ q
same_part p q h =
    let e = and_parts (nat_eq p.port q.port) (nat_eq p.channel q.channel) h in
    ap (λ x. of_port x p.channel) (eqb-true p.port q.port e.0) ∙ ap (of_port q.port) (eqb-true p.channel q.channel e.1)

pub part_itself : (p q : Part) → p ≡ q → is_same_part p q ≡ true
part_itself p q e = ap (is_same_part p) (sym e) ∙ and_from (nat_eq p.port p.port) (nat_eq p.channel p.channel) (eq-eqb p.port p.port refl) (eq-eqb p.channel p.channel refl)

abbrev made : Part → ℤ → Pair
made part steps = record { part = part; steps = steps }

pub same_pair : (p q : Pair) → is_same_pair p q ≡ true → p ≡ q
same_pair p q h =
    let e = and_parts (is_same_part p.part q.part) (int_eq p.steps q.steps) h in
    ap (λ x. made x p.steps) (same_part p.part q.part e.0) ∙ ap (made q.part) (same_int p.steps q.steps e.1)

pub pair_itself : (p q : Pair) → p ≡ q → is_same_pair p q ≡ true
pair_itself p q e = ap (is_same_pair p) (sym e) ∙ and_from (is_same_part p.part p.part) (int_eq p.steps p.steps) (part_itself p.part p.part refl) (int_itself p.steps)

pub same_pairs : (p q : Pair) → Decides (is_same_pair p q) (p ≡ q)
same_pairs p q = (same_pair p q, pair_itself p q)
