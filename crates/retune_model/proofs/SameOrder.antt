-- Two lists of pairs in order with the same members are the same; and lists in order with one pair more, or with those that pass a test.
use Rattle.std.proofs.Common.{◌≡◌, List, [], ◌∷◌, Bool, true, false, cond, ◌&&◌, ◌||◌, refl, ap, sym, ◌∙◌, subst, inl, inr}
use Rattle.std.specs.List.{AllByRecursion, filter}
use Rattle.std.specs.Set.{is_member}
use Rattle.std.proofs.lemmas.Bool.{or_cases, or_left, or_right, both_ways}
use Rattle.retune_model.specs.Pairs.{Pair, is_same_pair, is_before, with_pair}
use Rattle.retune_model.specs.PairOrder.{AreOrdered, HasEachOf}
use Rattle.retune_model.proofs.SamePairs.{same_pair}
use Rattle.retune_model.proofs.Ordered.{Has, itself, before_then, before_apart, with_has, with_keeps, with_back}

-- ---- the same list

member : (P : Pair → Type 0) (ps : List Pair) (x : Pair) → AllByRecursion P ps → Has ps x → P x
member P [] x all h = absurd cc
member P (p ∷ ps) x all h = elim (or_cases (is_same_pair x p) (is_member is_same_pair ps x) h) [
  | inl e ↦ subst P (sym (same_pair x p e)) all.0
  | inr e ↦ member P ps x all.1 e
]

-- none comes before itself
not_before : (p q : Pair) → p ≡ q → is_before p q ≡ true → ⊥
not_before p q e h = both_ways (is_same_pair p q) (before_apart p q h) (ap (is_same_pair p) (sym e) ∙ itself p)

first_is : (p : Pair) (ps : List Pair) → Has (p ∷ ps) p
first_is p ps = or_left (is_same_pair p p) (is_member is_same_pair ps p) (itself p)

-- the first of both
same_first : (p q : Pair) (ps qs : List Pair) → AreOrdered (p ∷ ps) → AreOrdered (q ∷ qs) → Has (q ∷ qs) p → Has (p ∷ ps) q → p ≡ q
same_first p q ps qs a b h k = elim (or_cases (is_same_pair p q) (is_member is_same_pair qs p) h) [
  | inl e ↦ same_pair p q e
  | inr e ↦ elim (or_cases (is_same_pair q p) (is_member is_same_pair ps q) k) [
    | inl f ↦ sym (same_pair q p f)
    | inr f ↦
        let first : is_before p q ≡ true = member (λ x. is_before p x ≡ true) ps q a.0 f in
        let second : is_before q p ≡ true = member (λ x. is_before q x ≡ true) qs p b.0 e in
        absurd (not_before p p refl (before_then p q p first second))
  ]
]

same_rest : (p q : Pair) (ps qs : List Pair) → p ≡ q → AreOrdered (p ∷ ps) → HasEachOf (q ∷ qs) (p ∷ ps) → HasEachOf qs ps
same_rest p q ps qs same a f x h =
    let there : Has (q ∷ qs) x = f x (or_right (is_same_pair x p) (is_member is_same_pair ps x) h) in
    elim (or_cases (is_same_pair x q) (is_member is_same_pair qs x) there) [
      | inl e ↦ absurd (not_before p x (same ∙ sym (same_pair x q e)) (member (λ y. is_before p y ≡ true) ps x a.0 h))
      | inr e ↦ e
    ]

pub same_list : (ps qs : List Pair) → AreOrdered ps → AreOrdered qs → HasEachOf qs ps → HasEachOf ps qs → ps ≡ qs
same_list [] [] a b f g = refl
same_list [] (q ∷ qs) a b f g = absurd (let h : false ≡ true = g q (first_is q qs) in cc)
same_list (p ∷ ps) [] a b f g = absurd (let h : false ≡ true = f p (first_is p ps) in cc)
same_list (p ∷ ps) (q ∷ qs) a b f g =
    let same : p ≡ q = same_first p q ps qs a b (f p (first_is p ps)) (g q (first_is q qs)) in
    ap (λ x. x ∷ ps) same ∙ ap (λ xs. q ∷ xs) (same_list ps qs a.1 b.1 (same_rest p q ps qs same a f) (same_rest q p qs ps (sym same) b g))

-- ---- one pair more

same_answer : (a b : Bool) → (a ≡ true → b ≡ true) → (b ≡ true → a ≡ true) → a ≡ b
same_answer true b f g = sym (f refl)
same_answer false false f g = refl
same_answer false true f g = g refl

pub has_more : (p q : Pair) (ps : List Pair) → is_member is_same_pair (with_pair p ps) q ≡ (is_same_pair q p || is_member is_same_pair ps q)
has_more p q ps = same_answer _ _
    (λ h. elim (with_back p ps q h) [
      | inl e ↦ or_left (is_same_pair q p) (is_member is_same_pair ps q) (ap (is_same_pair q) e ∙ itself q)
      | inr e ↦ or_right (is_same_pair q p) (is_member is_same_pair ps q) e
    ])
    (λ h. elim (or_cases (is_same_pair q p) (is_member is_same_pair ps q) h) [
      | inl e ↦ subst (λ x. Has (with_pair p ps) x) (sym (same_pair q p e)) (with_has p ps)
      | inr e ↦ with_keeps p ps q e
    ])

-- ---- those that pass

all_pass : (P : Pair → Type 0) (test : Pair → Bool) (ps : List Pair) → AllByRecursion P ps → AllByRecursion P (filter test ps)
all_pass P test [] h = tt
all_pass P test (p ∷ ps) h = pick (test p) (all_pass P test ps h.1)
  where
    pick : (b : Bool) → AllByRecursion P (filter test ps) → AllByRecursion P (cond b (p ∷ filter test ps) (filter test ps))
    pick true r = (h.0, r)
    pick false r = r

pub pass_ordered : (test : Pair → Bool) (ps : List Pair) → AreOrdered ps → AreOrdered (filter test ps)
pass_ordered test [] h = tt
pass_ordered test (p ∷ ps) h = pick (test p) (pass_ordered test ps h.1)
  where
    pick : (b : Bool) → AreOrdered (filter test ps) → AreOrdered (cond b (p ∷ filter test ps) (filter test ps))
    pick true r = (all_pass (λ q. is_before p q ≡ true) test ps h.0, r)
    pick false r = r

pub has_pass : (test : Pair → Bool) (q : Pair) (ps : List Pair) → is_member is_same_pair (filter test ps) q ≡ (is_member is_same_pair ps q && test q)
has_pass test q [] = refl
has_pass test q (p ∷ ps) = pick (test p) (is_same_pair q p) refl refl (has_pass test q ps)
  where
    never : (a : Bool) → (a && false) ≡ false
    never true = refl
    never false = refl

    pick : (b s : Bool) → test p ≡ b → is_same_pair q p ≡ s → is_member is_same_pair (filter test ps) q ≡ (is_member is_same_pair ps q && test q)
        → is_member is_same_pair (cond b (p ∷ filter test ps) (filter test ps)) q ≡ ((s || is_member is_same_pair ps q) && test q)
    pick true true b s r = ap (λ x. x || is_member is_same_pair (filter test ps) q) s ∙ sym (ap test (same_pair q p s) ∙ b)
    pick true false b s r = ap (λ x. x || is_member is_same_pair (filter test ps) q) s ∙ r
    pick false true b s r =
        let out : test q ≡ false = ap test (same_pair q p s) ∙ b in
        r ∙ (ap (λ x. is_member is_same_pair ps q && x) out ∙ (never (is_member is_same_pair ps q) ∙ sym out))
    pick false false b s r = r
