-- The tests of pairs and of targets decide equality; and no zone makes each channel its own governor.
use Rattle.std.proofs.Common.{◌≡◌, ◌≢◌, ℕ, zero, suc, ℤ, pos, negsuc, true, false, Some, refl, ap, sym, ◌∙◌, nat_eq, arith}
use Rattle.std.proofs.lemmas.Bool.{eqb-true, eq-eqb, and_from, and_parts, both_ways}
use Rattle.retune_model.specs.Pairs.{Part, Pair, is_same_part, is_same_pair}
use Rattle.midi_model.specs.Zones.{no_zones, governor}
use Rattle.retune_model.specs.Table.{BendTarget}
use Rattle.retune_model.specs.Faults.{int_eq, is_same_target}

pub same_int : (a b : ℤ) → int_eq a b ≡ true → a ≡ b
same_int (pos a) (pos b) h = ap pos (eqb-true a b h)
same_int (negsuc a) (negsuc b) h = ap negsuc (eqb-true a b h)
same_int (pos a) (negsuc b) h = absurd cc
same_int (negsuc a) (pos b) h = absurd cc

pub int_itself : (a : ℤ) → int_eq a a ≡ true
int_itself (pos a) = eq-eqb a a refl
int_itself (negsuc a) = eq-eqb a a refl

pub nat_itself : (a : ℕ) → nat_eq a a ≡ true
nat_itself a = eq-eqb a a refl

abbrev made : ℕ → ℕ → ℤ → Pair
made port part steps = record { part = record { port = port; channel = part }; steps = steps }

pub same_pair : (p q : Pair) → is_same_pair p q ≡ true → p ≡ q
same_pair p q h =
    let e = and_parts (is_same_part p.part q.part) (int_eq p.steps q.steps) h in
    let f = and_parts (nat_eq p.part.port q.part.port) (nat_eq p.part.channel q.part.channel) e.0 in
    ap (λ x. made x p.part.channel p.steps) (eqb-true p.part.port q.part.port f.0) ∙ ap (λ x. made q.part.port x p.steps)
    (eqb-true p.part.channel q.part.channel f.1)
    ∙ ap (λ y. made q.part.port q.part.channel y) (same_int p.steps q.steps e.1)

pub part_itself : (p : Part) → is_same_part p p ≡ true
part_itself p = and_from (nat_eq p.port p.port) (nat_eq p.channel p.channel) (nat_itself p.port) (nat_itself p.channel)

pub pair_itself : (p : Pair) → is_same_pair p p ≡ true
pair_itself p = and_from (is_same_part p.part p.part) (int_eq p.steps p.steps) (part_itself p.part) (int_itself p.steps)

pub other_pair : (p q : Pair) → is_same_pair p q ≡ false → p ≢ q
other_pair p q h e = both_ways (is_same_pair p q) h (ap (λ x. is_same_pair p x) (sym e) ∙ pair_itself p)

pub same_target : (a b : BendTarget) → a.key ≡ b.key → a.steps ≡ b.steps → is_same_target (Some a) (Some b) ≡ true
same_target a b h k = and_from (nat_eq a.key b.key) (int_eq a.steps b.steps) (eq-eqb a.key b.key h)
    (ap (λ s. int_eq a.steps s) (sym k) ∙ int_itself a.steps)

pub target_key : (a b : BendTarget) → is_same_target (Some a) (Some b) ≡ true → a.key ≡ b.key
target_key a b h = eqb-true a.key b.key (and_parts (nat_eq a.key b.key) (int_eq a.steps b.steps) h).0

pub target_steps : (a b : BendTarget) → is_same_target (Some a) (Some b) ≡ true → a.steps ≡ b.steps
target_steps a b h = same_int a.steps b.steps (and_parts (nat_eq a.key b.key) (int_eq a.steps b.steps) h).1

-- without zones each channel governs itself
pub own_governor : (c : ℕ) → governor no_zones c ≡ c
own_governor zero = refl
own_governor (suc c) = grind arith
