-- Counting finds the greatest number of pairs, and where it stands first.
use Rattle.std.proofs.Common.{◌≡◌, ◌≤◌, ◌<◌, ℕ, zero, suc, List, Bool, true, false, cond, refl, ap, length, arith, inl, inr, nat_lt}
use Rattle.std.proofs.lemmas.Bool.{cases_lt, ltb-true, lt-ltb, both_ways}
use Rattle.retune_model.specs.Pairs.{Pair}
use Rattle.retune_model.specs.Need.{IsNeed}
use Rattle.retune_model.specs.PortNeed.{most}

not_less : (a b : ℕ) → nat_lt a b ≡ false → b ≤ a
not_less a b h = elim (cases_lt a b) [
  | inl l ↦ absurd (both_ways (nat_lt a b) h (lt-ltb a b l))
  | inr l ↦ l
]

pub is_most : (at : ℕ → List Pair) (last : ℕ) → IsNeed at last (most at last).0 (most at last).1
is_most at zero = record {
  in_time = omega arith;
  reached = refl;
  most = λ k l. (let e : k ≡ 0 = omega (arith, l) in let f : length (at k) ≡ length (at 0) = ap (λ j. length (at j)) e in omega (arith, f));
  first = λ k l. absurd (omega (arith, l));
}
is_most at (suc last) = pick (nat_lt (most at last).0 (length (at (suc last)))) refl (is_most at last)
  where
    pick : (b : Bool) → nat_lt (most at last).0 (length (at (suc last))) ≡ b → IsNeed at last (most at last).0 (most at last).1
        → IsNeed at (suc last) (cond b (length (at (suc last)), suc last) (most at last)).0 (cond b (length (at (suc last)), suc last) (most at last)).1
    pick true e h =
        let more : (most at last).0 < length (at (suc last)) = ltb-true (most at last).0 (length (at (suc last))) e in
        record {
          in_time = omega arith;
          reached = refl;
          most = λ k l. elim (cases_lt last k) [
            | inl g ↦ (let s : k ≡ suc last = omega (arith, l, g) in let f : length (at k) ≡ length (at (suc last)) = ap (λ j. length (at j)) s in omega (arith, f))
            | inr g ↦ (let f : length (at k) ≤ (most at last).0 = h.most k g in omega (arith, f, more))
          ];
          first = λ k l. (let f : length (at k) ≤ (most at last).0 = h.most k (omega (arith, l)) in omega (arith, f, more));
        }
    pick false e h =
        let less : length (at (suc last)) ≤ (most at last).0 = not_less (most at last).0 (length (at (suc last))) e in
        let low : (most at last).1 ≤ last = h.in_time in
        record {
          in_time = omega (arith, low);
          reached = h.reached;
          most = λ k l. elim (cases_lt last k) [
            | inl g ↦ (let s : k ≡ suc last = omega (arith, l, g) in let f : length (at k) ≡ length (at (suc last)) = ap (λ j. length (at j)) s in omega (arith, f, less))
            | inr g ↦ h.most k g
          ];
          first = h.first;
        }
