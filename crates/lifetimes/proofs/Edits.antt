-- A pair is admitted to those that rest, or forgotten.
use Rattle.std.proofs.Common.{◌≡◌, ◌≢◌, ◌<◌, ◌≤◌, ◌∙◌, ◌+◌, ◌-◌, ℕ, zero, suc, ℤ, List, [], ◌∷◌, Bool, true, false, cond, ◌&&◌, Option, Some, None, is_some, length, get_or, refl, sym, ap, subst, arith, inl, inr}
use Rattle.std.specs.Prelude.{◌<ℤ◌, ◌≤ℤ◌, IfNone}
use Rattle.std.specs.List.{insert, remove}
use Rattle.std.proofs.lemmas.Int.{ints}
use Rattle.std.proofs.lemmas.Bool.{cases_lt}
use Rattle.std.proofs.lemmas.List.Edits.{get_or-insert_at, get_or-insert_below, get_or-insert_above, length-insert, get_or-remove_below, get_or-remove_above, length-remove}
use Rattle.retune_model.specs.Faults.{int_eq}
use Rattle.lifetimes.specs.declared.rests.Rest.{Rest}
use Rattle.lifetimes.specs.Resting.{no_rest, steps_at, AreRising, IsPlaceOf, IsAdmitted, end_kept, is_end_at, without_end}
use Rattle.lifetimes.proofs.Kept.{int_eq_tells, not_both, tail_rises, lost}

-- ---- forgotten

above : (a b q : ℤ) → a <ℤ b → a ≡ q → b ≢ q
above a b q h e g = grind (arith, ints)

pub removed_end : (xs : List Rest) (i : ℕ) (q : ℤ) → i < length xs → AreRising xs → end_kept (remove xs i) q ≡ cond (int_eq (steps_at xs i) q) None (end_kept xs q)
removed_end [] i q within rising = absurd (omega (arith, within))
removed_end (x ∷ xs) zero q within rising = pick (int_eq x.steps q) (λ e. lost xs q (λ k long. above x.steps (steps_at xs k) q (rising zero (suc k) (omega arith) (omega (arith, long))) (int_eq_tells x.steps q e)))
  where
    pick : (b : Bool) → (b ≡ true → end_kept xs q ≡ None) → end_kept xs q ≡ cond b None (cond b x.end (end_kept xs q))
    pick true h = h refl
    pick false h = refl
removed_end (x ∷ xs) (suc i) q within rising =
    ap (cond (int_eq x.steps q) x.end) (removed_end xs i q (omega (arith, within)) (tail_rises x xs rising))
    ∙ pick (int_eq x.steps q) (int_eq (steps_at xs i) q) (not_both x.steps (steps_at xs i) q (rising zero (suc i) (omega arith) within))
  where
    pick : (a b : Bool) → (b ≡ true → a ≡ false) → cond a x.end (cond b None (end_kept xs q)) ≡ cond b None (cond a x.end (end_kept xs q))
    pick true true h = absurd (let e : true ≡ false = h refl in cc)
    pick true false h = refl
    pick false b h = refl

pub removed_rises : (xs : List Rest) (i : ℕ) → i < length xs → AreRising xs → AreRising (remove xs i)
removed_rises xs i within rising j k lt long =
    let size : length (remove xs i) + 1 ≡ length xs = length-remove xs i within in
    elim (cases_lt j i) [
      | inl jb ↦ elim (cases_lt k i) [
        | inl kb ↦ moved (get_or-remove_below xs i no_rest j jb within) (get_or-remove_below xs i no_rest k kb within) (rising j k lt (omega (arith, kb, within)))
        | inr ka ↦ moved (get_or-remove_below xs i no_rest j jb within) (get_or-remove_above xs i no_rest k ka within) (rising j (k + 1) (omega (arith, lt)) (omega (arith, long, size)))
      ]
      | inr ja ↦ moved (get_or-remove_above xs i no_rest j ja within) (get_or-remove_above xs i no_rest k (omega (arith, ja, lt)) within) (rising (j + 1) (k + 1) (omega (arith, lt)) (omega (arith, long, size)))
    ]
  where
    moved : {x y a b : Rest} → a ≡ x → b ≡ y → x.steps <ℤ y.steps → a.steps <ℤ b.steps
    moved {x} {y} {a} {b} e f h = subst (λ z. z.steps <ℤ b.steps) (sym e) (subst (λ z. x.steps <ℤ z.steps) (sym f) h)

-- ---- admitted

both_same : (b : Bool) (e : Option ℕ) → cond b e e ≡ e
both_same true e = refl
both_same false e = refl

pub inserted_end : (xs : List Rest) (i : ℕ) (s q : ℤ) → ((k : ℕ) → k < length xs → steps_at xs k ≢ s)
    → end_kept (insert xs i (record { steps = s; end = None })) q ≡ end_kept xs q
inserted_end xs zero s q none = pick (int_eq s q) (λ e. lost xs q (λ k long g. none k long (g ∙ sym (int_eq_tells s q e))))
  where
    pick : (b : Bool) → (b ≡ true → end_kept xs q ≡ None) → cond b None (end_kept xs q) ≡ end_kept xs q
    pick true h = sym (h refl)
    pick false h = refl
inserted_end [] (suc i) s q none = both_same (int_eq s q) None
inserted_end (x ∷ xs) (suc i) s q none = ap (cond (int_eq x.steps q) x.end) (inserted_end xs i s q (λ k long. none (suc k) (omega (arith, long))))

strictly : (a s : ℤ) → s ≤ℤ a → a ≢ s → s <ℤ a
strictly a s h ne = grind (arith, ints)

pub inserted_rises : (xs : List Rest) (i : ℕ) (y : Rest) → i ≤ length xs → AreRising xs → IsPlaceOf xs y.steps i
    → ((k : ℕ) → k < length xs → steps_at xs k ≢ y.steps) → AreRising (insert xs i y)
inserted_rises xs i y within rising place none j k lt long =
    let size : length (insert xs i y) ≡ length xs + 1 = length-insert xs i y within in
    elim (cases_lt k i) [
      | inl kb ↦ moved (get_or-insert_below xs i y no_rest j (omega (arith, lt, kb)) within) (get_or-insert_below xs i y no_rest k kb within) (rising j k lt (omega (arith, kb, within)))
      | inr ka ↦ elim (cases_lt i k) [
        | inl over ↦ (let back : (k - 1) + 1 ≡ k = omega (arith, over) in
            let there : get_or (insert xs i y) k no_rest ≡ get_or xs (k - 1) no_rest = ap (λ n. get_or (insert xs i y) n no_rest) (sym back) ∙ get_or-insert_above xs i y no_rest (k - 1) (omega (arith, over)) within in
            elim (cases_lt j i) [
              | inl jb ↦ moved (get_or-insert_below xs i y no_rest j jb within) there (rising j (k - 1) (omega (arith, jb, over)) (omega (arith, long, size, over)))
              | inr ja ↦ elim (cases_lt i j) [
                | inl beyond ↦ (let low : (j - 1) + 1 ≡ j = omega (arith, beyond) in
                    moved (ap (λ n. get_or (insert xs i y) n no_rest) (sym low) ∙ get_or-insert_above xs i y no_rest (j - 1) (omega (arith, beyond)) within) there (rising (j - 1) (k - 1) (omega (arith, lt, beyond)) (omega (arith, long, size, over))))
                | inr here ↦ (let same : j ≡ i = omega (arith, ja, here) in
                    moved (ap (λ n. get_or (insert xs i y) n no_rest) same ∙ get_or-insert_at xs i y no_rest within) there (strictly (steps_at xs (k - 1)) y.steps (place.behind (k - 1) (omega (arith, over)) (omega (arith, long, size, over))) (none (k - 1) (omega (arith, long, size, over)))))
              ]
            ])
        | inr here ↦ (let same : k ≡ i = omega (arith, ka, here) in
            moved (get_or-insert_below xs i y no_rest j (omega (arith, lt, same)) within) (ap (λ n. get_or (insert xs i y) n no_rest) same ∙ get_or-insert_at xs i y no_rest within) (place.before j (omega (arith, lt, same))))
      ]
    ]
  where
    moved : {x z a b : Rest} → a ≡ x → b ≡ z → x.steps <ℤ z.steps → a.steps <ℤ b.steps
    moved {x} {z} {a} {b} e f h = subst (λ r. r.steps <ℤ b.steps) (sym e) (subst (λ r. x.steps <ℤ r.steps) (sym f) h)

-- ---- as a vector that may be full takes it

pub when_none : {P : Type 0} (r : Option ℕ) → is_some r ≡ false → IfNone r P → P
when_none None e h = h
when_none (Some x) e h = absurd cc

pub maybe_rises : (b : Bool) (xs ys : List Rest) (i : ℕ) (y : Rest) → ys ≡ cond b (insert xs i y) xs → i ≤ length xs → AreRising xs → IsPlaceOf xs y.steps i
    → ((k : ℕ) → k < length xs → steps_at xs k ≢ y.steps) → AreRising ys
maybe_rises true xs ys i y e within rising place none = subst AreRising (sym e) (inserted_rises xs i y within rising place none)
maybe_rises false xs ys i y e within rising place none = subst AreRising (sym e) rising

pub still_admitted : (xs : List Rest) (i : ℕ) (y : Rest) (q : ℤ) → i ≤ length xs → IsAdmitted xs q → IsAdmitted (insert xs i y) q
still_admitted xs i y q within a =
    let size : length (insert xs i y) ≡ length xs + 1 = length-insert xs i y within in
    let long = a.1 in
    elim (cases_lt a.0 i) [
      | inl lt ↦ (a.0, omega (arith, size, long), ap (λ x. x.steps) (get_or-insert_below xs i y no_rest a.0 lt within) ∙ a.2)
      | inr ge ↦ (a.0 + 1, omega (arith, size, long), ap (λ x. x.steps) (get_or-insert_above xs i y no_rest a.0 ge within) ∙ a.2)
    ]

pub maybe_admitted : (b : Bool) (xs ys : List Rest) (i : ℕ) (y : Rest) (q : ℤ) → ys ≡ cond b (insert xs i y) xs → i ≤ length xs → IsAdmitted xs q → IsAdmitted ys q
maybe_admitted true xs ys i y q e within a = subst (λ l. IsAdmitted l q) (sym e) (still_admitted xs i y q within a)
maybe_admitted false xs ys i y q e within a = subst (λ l. IsAdmitted l q) (sym e) a

pub maybe_ends : (b : Bool) (xs ys : List Rest) (i : ℕ) (s q : ℤ) → ys ≡ cond b (insert xs i (record { steps = s; end = None })) xs
    → ((k : ℕ) → k < length xs → steps_at xs k ≢ s) → end_kept ys q ≡ end_kept xs q
maybe_ends true xs ys i s q e none = ap (λ l. end_kept l q) e ∙ inserted_end xs i s q none
maybe_ends false xs ys i s q e none = ap (λ l. end_kept l q) e

-- ---- what is left where a pair is forgotten by its end

pub stays : (xs : List Rest) (s : ℤ) (t : ℕ) (q : ℤ) → is_end_at t (end_kept xs s) ≡ false → end_kept xs q ≡ without_end s t q (end_kept xs q)
stays xs s t q other = pick (int_eq s q) (λ e. ap (λ z. is_end_at t (end_kept xs z)) (sym (int_eq_tells s q e)) ∙ other)
  where
    pick : (b : Bool) → (b ≡ true → is_end_at t (end_kept xs q) ≡ false) → end_kept xs q ≡ cond (b && is_end_at t (end_kept xs q)) None (end_kept xs q)
    pick true h = ap (λ b. cond b None (end_kept xs q)) (sym (h refl))
    pick false h = refl

pub goes : (xs : List Rest) (i : ℕ) (s : ℤ) (t : ℕ) (q : ℤ) → i < length xs → AreRising xs → steps_at xs i ≡ s → is_end_at t (end_kept xs s) ≡ true
    → end_kept (remove xs i) q ≡ without_end s t q (end_kept xs q)
goes xs i s t q within rising at here =
    removed_end xs i q within rising
    ∙ (ap (λ z. cond (int_eq z q) None (end_kept xs q)) at ∙ pick (int_eq s q) (λ e. ap (λ z. is_end_at t (end_kept xs z)) (sym (int_eq_tells s q e)) ∙ here))
  where
    pick : (b : Bool) → (b ≡ true → is_end_at t (end_kept xs q) ≡ true) → cond b None (end_kept xs q) ≡ cond (b && is_end_at t (end_kept xs q)) None (end_kept xs q)
    pick true h = ap (λ b. cond b None (end_kept xs q)) (sym (h refl))
    pick false h = refl
