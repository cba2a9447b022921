-- The channels that a part holds, by channel, as the program goes through them.
use Rattle.std.proofs.Common.{◌≡◌, ◌≢◌, ◌<◌, ◌≤◌, ◌+◌, ◌++◌, ℕ, zero, suc, Bool, true, false, cond, nat_eq, nat_lt, List, [], ◌∷◌, refl, ap, sym, ◌∙◌, subst, arith, inl, inr}
use Rattle.std.specs.List.{AllByRecursion, IsDistinct}
use Rattle.std.specs.Set.{is_member}
use Rattle.std.proofs.lemmas.Bool.{both_ways, or_cases, or_left, or_right, cond_both, ltb-true, cases_lt, lt-ltb}
use Rattle.mt_base.specs.declared.event.Msg.{Msg}
use Rattle.mt_base.specs.declared.event.Msg.TheVariants.{Control}
use Rattle.midi_model.specs.Music.{Music, state_at}
use Rattle.midi_model.specs.Bring.{bring}
use Rattle.retune_model.specs.Dump.{from_up}
use Rattle.retune_model.specs.Options.{Options}
use Rattle.retune_model.specs.Faults.{Targets}
use Rattle.retune_model.specs.Pairs.{Pair, is_same_pair}
use Rattle.channel_model.specs.Choice.{wanted}
use Rattle.channel_model.specs.BendOutput.{Held, put_held, held_by, bring_all, send_all}
use Rattle.bend_laws.specs.Follows.{Has}
use Rattle.bend_laws.proofs.Equal.{same_pair, pair_itself, other_pair}
use Rattle.bend_laws.proofs.Holding.{held_pair, IsIn, all_at, held_in, held_all}
use Rattle.bend_laws.proofs.Lists.{all_weaker}
use Rattle.route_bend.specs.Channels.{is_given, pair_on, state_in}
use Rattle.route_bend.specs.Sent.{brought, sent}
use Rattle.route_bend.specs.declared.channels.Channels.{Channels}

-- ---- ascending lists

abbrev pub Rising : List Held → Type 0
Rising [] = Unit {0}
Rising (h ∷ hs) = AllByRecursion (λ (g : Held). h.channel < g.channel) hs × Rising hs

all_put : (P : Held → Type 0) (g : Held) (gs : List Held) → P g → AllByRecursion P gs → AllByRecursion P (put_held g gs)
all_put P g [] p h = (p, tt)
all_put P g (x ∷ xs) p h = cond_both (nat_lt g.channel x.channel) (g ∷ x ∷ xs) (x ∷ put_held g xs) (AllByRecursion P) (λ e. (p, h))
    (λ e. (h.0, all_put P g xs p h.1))

put_rising : (g : Held) (gs : List Held) → AllByRecursion (λ (x : Held). x.channel ≢ g.channel) gs → Rising gs → Rising (put_held g gs)
put_rising g [] a r = (tt, tt)
put_rising g (x ∷ xs) a r = cond_both (nat_lt g.channel x.channel) (g ∷ x ∷ xs) (x ∷ put_held g xs) Rising
    (λ e. (let l = ltb-true g.channel x.channel e in
    ((l, all_weaker (λ (y : Held). x.channel < y.channel) (λ (y : Held). g.channel < y.channel) (λ y m. omega (arith, l, m)) xs r.0), r)))
    (λ e. (all_put (λ (y : Held). x.channel < y.channel) g xs (later e) r.0, put_rising g xs a.1 r.1))
  where
    later : nat_lt g.channel x.channel ≡ false → x.channel < g.channel
    later e = elim (cases_lt g.channel x.channel) [
      | inl l ↦ absurd (both_ways (nat_lt g.channel x.channel) e (lt-ltb g.channel x.channel l))
      | inr l ↦ elim (cases_lt x.channel g.channel) [
        | inl m ↦ m
        | inr m ↦ absurd (a.0 (let same : x.channel ≡ g.channel = omega (arith, l, m) in same))
      ]
    ]

all_member : (P : Pair → Type 0) (ps : List Pair) (p : Pair) → AllByRecursion P ps → Has ps p → P p
all_member P [] p h m = absurd (both_ways false refl m)
all_member P (x ∷ xs) p h m = elim (or_cases (is_same_pair p x) (is_member is_same_pair xs p) m) [
  | inl e ↦ subst P (sym (same_pair p x e)) h.0
  | inr e ↦ all_member P xs p h.1 e
]

pub held_rising : (place : Pair → ℕ) (part : ℕ) (ps : List Pair) → IsDistinct is_same_pair ps →
    ((p q : Pair) → Has ps p → Has ps q → place p ≡ place q → p ≡ q) → Rising (held_by place part ps)
unfolding IsDistinct
held_rising place part [] d f = tt
held_rising place part (q ∷ qs) d f =
    let rest : Rising (held_by place part qs) =
    held_rising place part qs d.1 (λ a b h k. f a b (or_right (is_same_pair a q) (is_member is_same_pair qs a) h)
    (or_right (is_same_pair b q) (is_member is_same_pair qs b) k)) in
    let apart : (p : Pair) → Has qs p → p.part.channel ≡ part → place p ≢ place q =
    λ p h e k. other_pair q p (all_member (λ y. is_same_pair q y ≡ false) qs p d.0 h)
    (sym (f p q (or_right (is_same_pair p q) (is_member is_same_pair qs p) h) (or_left (is_same_pair q q) (is_member is_same_pair qs q)
    (pair_itself q)) k)) in
    cond_both (nat_eq q.part.channel part) (put_held (held_pair place q) (held_by place part qs)) (held_by place part qs) Rising
    (λ k. put_rising (held_pair place q) (held_by place part qs) (held_all (λ g. g.channel ≢ place q) place part qs apart) rest)
    (λ k. rest)

-- two of them with the same elements are the same
below_itself : (h : Held) → h.channel < h.channel → ⊥
below_itself h l = omega (arith, l)

pub rising_same : (xs ys : List Held) → Rising xs → Rising ys → ((h : Held) → IsIn h xs → IsIn h ys) → ((h : Held) → IsIn h ys → IsIn h xs) → xs ≡ ys
rising_same [] [] r s f g = refl
rising_same [] (y ∷ ys) r s f g = absurd (g y (inl refl))
rising_same (x ∷ xs) [] r s f g = absurd (f x (inl refl))
rising_same (x ∷ xs) (y ∷ ys) r s f g =
    let first : x ≡ y = elim (f x (inl refl)) [
      | inl same ↦ same
      | inr i ↦ elim (g y (inl refl)) [
        | inl same ↦ sym same
        | inr j ↦ (let l : y.channel < x.channel = all_at (λ (h : Held). y.channel < h.channel) x ys i s.0 in
            let m : x.channel < y.channel = all_at (λ (h : Held). x.channel < h.channel) y xs j r.0 in
            absurd (omega (arith, l, m)))
      ]
    ] in
    let into : (h : Held) → IsIn h xs → IsIn h ys = λ h i. elim (f h (inr i)) [
      | inl same ↦ absurd (below_itself x (subst (λ (z : Held). x.channel < z.channel) (same ∙ sym first) (all_at (λ (z : Held). x.channel
          < z.channel) h xs i r.0)))
      | inr j ↦ j
    ] in
    let back : (h : Held) → IsIn h ys → IsIn h xs = λ h i. elim (g h (inr i)) [
      | inl same ↦ absurd (below_itself y (subst (λ (z : Held). y.channel < z.channel) (same ∙ first) (all_at (λ (z : Held). y.channel
          < z.channel) h ys i s.0)))
      | inr j ↦ j
    ] in
    ap (λ h. h ∷ xs) first ∙ ap (λ hs. y ∷ hs) (rising_same xs ys r.1 s.1 into back)

-- ---- the program's list of them

abbrev pub held_on : Channels → ℕ → ℕ → Held
held_on s part c = record { channel = c; pair = pair_on s part c }

abbrev pub held_row : Channels → ℕ → List ℕ → List Held
held_row s part [] = []
held_row s part (c ∷ cs) = cond (is_given s part c) (held_on s part c ∷ held_row s part cs) (held_row s part cs)

row_all : (P : Held → Type 0) (s : Channels) (part i n : ℕ) → i + n ≤ 16 →
    ((c : ℕ) → i ≤ c → c < 16 → is_given s part c ≡ true → P (held_on s part c)) →
    AllByRecursion P (held_row s part (from_up i n))
row_all P s part i zero l f = tt
row_all P s part i (suc n) l f =
    let rest : AllByRecursion P (held_row s part (from_up (i + 1) n)) = row_all P s part (i + 1) n (omega (arith, l))
    (λ c m u g. f c (omega (arith, m)) u g) in
    cond_both (is_given s part i) (held_on s part i ∷ held_row s part (from_up (i + 1) n)) (held_row s part (from_up (i + 1) n)) (AllByRecursion P)
    (λ g. (f i (omega arith) (omega (arith, l)) g, rest)) (λ g. rest)

row_rising : (s : Channels) (part i n : ℕ) → i + n ≤ 16 → Rising (held_row s part (from_up i n))
row_rising s part i zero l = tt
row_rising s part i (suc n) l =
    let rest : Rising (held_row s part (from_up (i + 1) n)) = row_rising s part (i + 1) n (omega (arith, l)) in
    cond_both (is_given s part i) (held_on s part i ∷ held_row s part (from_up (i + 1) n)) (held_row s part (from_up (i + 1) n)) Rising
    (λ g. (row_all (λ (h : Held). i < h.channel) s part (i + 1) n (omega (arith, l)) (λ c m u k. omega (arith, m)), rest)) (λ g. rest)

in_row : (s : Channels) (part i n c : ℕ) → i ≤ c → c < i + n → is_given s part c ≡ true → IsIn (held_on s part c) (held_row s part (from_up i n))
in_row s part i zero c l m g = omega (arith, l, m)
in_row s part i (suc n) c l m g = elim (cases_lt i c) [
  | inl k ↦ (let later : IsIn (held_on s part c) (held_row s part (from_up (i + 1) n)) = in_row s part (i + 1) n c (omega (arith, k))
      (omega (arith, m)) g in
      cond_both (is_given s part i) (held_on s part i ∷ held_row s part (from_up (i + 1) n)) (held_row s part (from_up (i + 1) n))
      (IsIn (held_on s part c)) (λ e. inr later) (λ e. later))
  | inr k ↦ (let same : c ≡ i = omega (arith, k, l) in
      subst (λ b. IsIn (held_on s part c) (cond b (held_on s part i ∷ held_row s part (from_up (i + 1) n)) (held_row s part (from_up (i + 1) n))))
      (sym (ap (is_given s part) (sym same) ∙ g)) (inl (ap (held_on s part) same)))
]

-- what is given to the part are just the channels that its pairs hold
pub record AreHeld (s : Channels) (place : Pair → ℕ) (part : ℕ) (ps : List Pair) : Type 0 where
  pub distinct : IsDistinct is_same_pair ps
  pub apart : (p q : Pair) → Has ps p → Has ps q → place p ≡ place q → p ≡ q
  pub low : (p : Pair) → Has ps p → place p < 16
  pub given : (p : Pair) → Has ps p → p.part.channel ≡ part → is_given s part (place p) ≡ true
  pub pair : (p : Pair) → Has ps p → p.part.channel ≡ part → pair_on s part (place p) ≡ p
  pub there : (c : ℕ) → c < 16 → is_given s part c ≡ true → Has ps (pair_on s part c)
  pub placed : (c : ℕ) → c < 16 → is_given s part c ≡ true → place (pair_on s part c) ≡ c

held_alike : (c d : ℕ) (p q : Pair) → c ≡ d → p ≡ q → (let x : Held = record { channel = c; pair = p } in x) ≡ record { channel = d; pair = q }
held_alike c d p q e f = ap (λ n. let x : Held = record { channel = n; pair = p } in x) e
    ∙ ap (λ y. let x : Held = record { channel = d; pair = y } in x) f

pub held_same : (s : Channels) (place : Pair → ℕ) (part : ℕ) (ps : List Pair) → AreHeld s place part ps →
    held_by place part ps ≡ held_row s part (from_up 0 16)
held_same s place part ps a =
    let row : List Held = held_row s part (from_up 0 16) in
    let hs : List Held = held_by place part ps in
    rising_same hs row (held_rising place part ps a.distinct a.apart) (row_rising s part 0 16 (omega arith))
    (λ h i. all_at (λ g. IsIn g row) h hs i (held_all (λ g. IsIn g row) place part ps (λ p m e.
    subst (λ g. IsIn g row) (held_alike (place p) (place p) (pair_on s part (place p)) p refl (a.pair p m e))
    (in_row s part 0 16 (place p) (omega arith) (a.low p m) (a.given p m e)))))
    (λ h i. all_at (λ g. IsIn g hs) h row i (row_all (λ g. IsIn g hs) s part 0 16 (omega arith) (λ c m l g.
    subst (λ x. IsIn x hs) (held_alike (place (pair_on s part c)) c (pair_on s part c) (pair_on s part c) (a.placed c l g) refl)
    (held_in place part ps (pair_on s part c) (a.there c l g) refl))))

-- ---- what is sent on them

brought_row : (o : Options) (table : Targets) (after out : Music) (s : Channels) (part i n : ℕ) → i + n ≤ 16 →
    ((c : ℕ) → c < 16 → is_given s part c ≡ true → bring c (state_in s c) (wanted o table after (pair_on s part c))
    ≡ bring c (state_at out c) (wanted o table after (pair_on s part c))) →
    brought (wanted o table after) s part (from_up i n) ≡ bring_all o table after out (held_row s part (from_up i n))
brought_row o table after out s part i zero l f = refl
brought_row o table after out s part i (suc n) l f =
    let xs : List Msg = brought (wanted o table after) s part (from_up (i + 1) n) in
    let hs : List Held = held_row s part (from_up (i + 1) n) in
    let rest : xs ≡ bring_all o table after out hs = brought_row o table after out s part (i + 1) n (omega (arith, l)) f in
    pick (is_given s part i) refl rest
  where
    more : List Held
    more = held_row s part (from_up (i + 1) n)

    pick : (b : Bool) → is_given s part i ≡ b → brought (wanted o table after) s part (from_up (i + 1) n) ≡ bring_all o table after out more →
        cond b (bring i (state_in s i) (wanted o table after (pair_on s part i))) [] ++ brought (wanted o table after) s part (from_up (i + 1) n)
        ≡ bring_all o table after out (cond b (held_on s part i ∷ more) more)
    pick true g e = ap (λ ms. ms ++ brought (wanted o table after) s part (from_up (i + 1) n)) (f i (omega (arith, l)) g)
        ∙ ap (λ ms. bring i (state_at out i) (wanted o table after (pair_on s part i)) ++ ms) e
    pick false g e = e

pub brought_is : (o : Options) (table : Targets) (after out : Music) (s : Channels) (part : ℕ) →
    ((c : ℕ) → c < 16 → is_given s part c ≡ true → bring c (state_in s c) (wanted o table after (pair_on s part c))
    ≡ bring c (state_at out c) (wanted o table after (pair_on s part c))) →
    brought (wanted o table after) s part (from_up 0 16) ≡ bring_all o table after out (held_row s part (from_up 0 16))
brought_is o table after out s part f = brought_row o table after out s part 0 16 (omega arith) f

sent_row : (s : Channels) (part n v : ℕ) (cs : List ℕ) → sent s part n v cs ≡ send_all n v (held_row s part cs)
sent_row s part n v [] = refl
sent_row s part n v (c ∷ cs) = pick (is_given s part c) (sent_row s part n v cs)
  where
    pick : (b : Bool) → sent s part n v cs ≡ send_all n v (held_row s part cs) →
        cond b (Control c n v ∷ []) [] ++ sent s part n v cs ≡ send_all n v (cond b (held_on s part c ∷ held_row s part cs) (held_row s part cs))
    pick true e = ap (λ ms. Control c n v ∷ ms) e
    pick false e = e

pub sent_is : (s : Channels) (part n v : ℕ) → sent s part n v (from_up 0 16) ≡ send_all n v (held_row s part (from_up 0 16))
sent_is s part n v = sent_row s part n v (from_up 0 16)
