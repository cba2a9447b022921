-- The channels that a part holds: each with its pair, each once.
use Rattle.std.proofs.Common.{◌≡◌, ◌≢◌, ◌⊎◌, ℕ, false, List, [], ◌∷◌, refl, ap, sym, ◌∙◌, subst, nat_eq, nat_lt, inl, inr}
use Rattle.std.specs.List.{AllByRecursion, IsDistinct}
use Rattle.std.specs.Set.{is_member}
use Rattle.std.proofs.lemmas.Bool.{eqb-true, eq-eqb, both_ways, or_cases, or_left, or_right, cond_both}
use Rattle.retune_model.specs.Pairs.{Pair, is_same_pair}
use Rattle.channel_model.specs.BendOutput.{Held, put_held, held_by}
use Rattle.bend_laws.specs.Follows.{Has}
use Rattle.bend_laws.proofs.Equal.{same_pair, pair_itself, other_pair}

abbrev pub held_pair : (Pair → ℕ) → Pair → Held
held_pair place p = record { channel = place p; pair = p }

abbrev pub IsIn : Held → List Held → Type 0
IsIn h [] = ⊥
IsIn h (g ∷ gs) = (h ≡ g) ⊎ IsIn h gs

pub all_at : (P : Held → Type 0) (h : Held) (hs : List Held) → IsIn h hs → AllByRecursion P hs → P h
all_at P h [] i a = absurd i
all_at P h (g ∷ gs) (inl e) a = subst P (sym e) a.0
all_at P h (g ∷ gs) (inr i) a = all_at P h gs i a.1

abbrev pub OnOwnChannels : List Held → Type 0
OnOwnChannels [] = Unit {0}
OnOwnChannels (h ∷ hs) = AllByRecursion (λ g. g.channel ≢ h.channel) hs × OnOwnChannels hs

-- ---- one that is put in

put_first : (h g : Held) (gs : List Held) → IsIn h (g ∷ gs) → IsIn h (put_held g gs)
put_first h g [] i = i
put_first h g (x ∷ xs) i = cond_both (nat_lt g.channel x.channel) (g ∷ x ∷ xs) (x ∷ put_held g xs) (IsIn h) (λ e. i)
    (λ e. elim i [
      | inl same ↦ inr (put_first h g xs (inl same))
      | inr j ↦ elim j [
        | inl same ↦ inl same
        | inr k ↦ inr (put_first h g xs (inr k))
      ]
    ])

all_put : (P : Held → Type 0) (g : Held) (gs : List Held) → P g → AllByRecursion P gs → AllByRecursion P (put_held g gs)
all_put P g [] p h = (p, tt)
all_put P g (x ∷ xs) p h = cond_both (nat_lt g.channel x.channel) (g ∷ x ∷ xs) (x ∷ put_held g xs) (AllByRecursion P) (λ e. (p, h))
    (λ e. (h.0, all_put P g xs p h.1))

own_put : (g : Held) (gs : List Held) → AllByRecursion (λ x. x.channel ≢ g.channel) gs → OnOwnChannels gs → OnOwnChannels (put_held g gs)
own_put g [] a o = (tt, tt)
own_put g (x ∷ xs) a o = cond_both (nat_lt g.channel x.channel) (g ∷ x ∷ xs) (x ∷ put_held g xs) OnOwnChannels (λ e. (a, o))
    (λ e. (all_put (λ y. y.channel ≢ x.channel) g xs (λ k. a.0 (sym k)) o.0, own_put g xs a.1 o.1))

-- ---- all that a part holds

pub held_in : (place : Pair → ℕ) (part : ℕ) (ps : List Pair) (p : Pair) → Has ps p → p.part.channel ≡ part → IsIn (held_pair place p)
    (held_by place part ps)
held_in place part [] p h e = absurd (both_ways false refl h)
held_in place part (q ∷ qs) p h e = cond_both (nat_eq q.part.channel part) (put_held (held_pair place q) (held_by place part qs))
    (held_by place part qs) (IsIn (held_pair place p))
    (λ k. elim (or_cases (is_same_pair p q) (is_member is_same_pair qs p) h) [
      | inl s ↦ put_first (held_pair place p) (held_pair place q) (held_by place part qs) (inl (ap (held_pair place) (same_pair p q s)))
      | inr m ↦ put_first (held_pair place p) (held_pair place q) (held_by place part qs) (inr (held_in place part qs p m e))
    ])
    (λ k. elim (or_cases (is_same_pair p q) (is_member is_same_pair qs p) h) [
      | inl s ↦ absurd (both_ways (nat_eq q.part.channel part) k (eq-eqb q.part.channel part (ap (λ (x : Pair). x.part.channel)
          (sym (same_pair p q s)) ∙ e)))
      | inr m ↦ held_in place part qs p m e
    ])

pub held_all : (P : Held → Type 0) (place : Pair → ℕ) (part : ℕ) (ps : List Pair) → ((p : Pair) → Has ps p → p.part.channel ≡ part →
    P (held_pair place p)) → AllByRecursion P (held_by place part ps)
held_all P place part [] f = tt
held_all P place part (q ∷ qs) f =
    let rest : AllByRecursion P (held_by place part qs) =
    held_all P place part qs (λ p m e. f p (or_right (is_same_pair p q) (is_member is_same_pair qs p) m) e) in
    cond_both (nat_eq q.part.channel part) (put_held (held_pair place q) (held_by place part qs)) (held_by place part qs) (AllByRecursion P)
    (λ k. all_put P (held_pair place q) (held_by place part qs) (f q (or_left (is_same_pair q q) (is_member is_same_pair qs q) (pair_itself q))
    (eqb-true q.part.channel part k)) rest)
    (λ k. rest)

all_member : (P : Pair → Type 0) (ps : List Pair) (p : Pair) → AllByRecursion P ps → Has ps p → P p
all_member P [] p h m = absurd (both_ways false refl m)
all_member P (x ∷ xs) p h m = elim (or_cases (is_same_pair p x) (is_member is_same_pair xs p) m) [
  | inl e ↦ subst P (sym (same_pair p x e)) h.0
  | inr e ↦ all_member P xs p h.1 e
]

pub held_own : (place : Pair → ℕ) (part : ℕ) (ps : List Pair) → IsDistinct is_same_pair ps →
    ((p q : Pair) → Has ps p → Has ps q → place p ≡ place q → p ≡ q) → OnOwnChannels (held_by place part ps)
unfolding IsDistinct
held_own place part [] d f = tt
held_own place part (q ∷ qs) d f =
    let rest : OnOwnChannels (held_by place part qs) =
    held_own place part qs d.1 (λ a b h k. f a b (or_right (is_same_pair a q) (is_member is_same_pair qs a) h)
    (or_right (is_same_pair b q) (is_member is_same_pair qs b) k)) in
    let apart : (p : Pair) → Has qs p → p.part.channel ≡ part → place p ≢ place q =
    λ p h e k. other_pair q p (all_member (λ y. is_same_pair q y ≡ false) qs p d.0 h)
    (sym (f p q (or_right (is_same_pair p q) (is_member is_same_pair qs p) h) (or_left (is_same_pair q q) (is_member is_same_pair qs q)
    (pair_itself q)) k)) in
    cond_both (nat_eq q.part.channel part) (put_held (held_pair place q) (held_by place part qs)) (held_by place part qs) OnOwnChannels
    (λ k. own_put (held_pair place q) (held_by place part qs) (held_all (λ g. g.channel ≢ place q) place part qs apart) rest)
    (λ k. rest)
