-- The places of a row of channels, from one position to the next.
use Rattle.std.proofs.Common.{◌≡◌, ◌≢◌, ◌<◌, ◌⊎◌, ℕ, zero, suc, List, [], ◌∷◌, Bool, true, false, cond, not, Option, Some, None, is_some, length, map, refl, sym, ap, ◌∙◌, subst, nat_eq, arith, inl, inr}
use Rattle.std.specs.Set.{is_member}
use Rattle.std.proofs.lemmas.Bool.{cases_lt, cases_eq, both_ways, eqb-true, eq-eqb, or_cases, or_left, or_right, and_parts, false_from_ne_true}
use Rattle.std.proofs.lemmas.List.{length-map, get_or-map, length-set, get_or-set_same, get_or-set_other}
use Rattle.midi_model.specs.Channel.{State, default_state}
use Rattle.midi_model.specs.Bring.{bring}
use Rattle.retune_model.specs.Pairs.{Pair, is_same_pair}
use Rattle.retune_model.specs.RunLaws.{PairsAreTold}
use Rattle.retune_model.specs.Runs.{since, begins, IsFree, HasRoom}
use Rattle.channel_model.specs.Choice.{on_place, pair_on, is_taken, free_since, IsNoWorse, TakesBest}
use Rattle.plan_laws.specs.Placing.{Seen, nowhere, seen_at, Has, place_at, AreApart, HasPlaces, stay, HasLeft, or_kept, leave_if, leave, clear, begin_on, IsBestSeen}
use Rattle.plan_laws.specs.PlacingLaws.{AllAreNowhere, TellsLeaving, IsLeftAlone, OnlyBegins}

-- ---- what is on a place

some_same : (p q : Pair) → Some p ≡ Some q → p ≡ q
some_same p q e = cc

pub on_found : PairsAreTold → (place : Pair → ℕ) (c : ℕ) (ps : List Pair) (p : Pair) → on_place place c ps ≡ Some p → Has ps p × (place p ≡ c)
on_found told place c [] p h = absurd cc
on_found told place c (q ∷ qs) p h = pick (λ g. on_found told place c qs p g) (nat_eq (place q) c) refl h
  where
    pick : (on_place place c qs ≡ Some p → Has qs p × (place p ≡ c)) → (b : Bool) → nat_eq (place q) c ≡ b
        → cond b (Some q) (on_place place c qs) ≡ Some p → Has (q ∷ qs) p × (place p ≡ c)
    pick later true e g =
        let s : q ≡ p = some_same q p g in
        (or_left (is_same_pair p q) (is_member is_same_pair qs p) ((told p q).1 (sym s)), ap place (sym s) ∙ eqb-true (place q) c e)
    pick later false e g = let r = later g in (or_right (is_same_pair p q) (is_member is_same_pair qs p) r.0, r.1)

on_none : PairsAreTold → (place : Pair → ℕ) (c : ℕ) (ps : List Pair) (p : Pair) → on_place place c ps ≡ None → Has ps p → place p ≡ c → ⊥
on_none told place c [] p h m s = both_ways false refl m
on_none told place c (q ∷ qs) p h m s = pick (λ g n. on_none told place c qs p g n s) (nat_eq (place q) c) refl h
  where
    pick : (on_place place c qs ≡ None → Has qs p → ⊥) → (b : Bool) → nat_eq (place q) c ≡ b → cond b (Some q) (on_place place c qs) ≡ None → ⊥
    pick deeper true e g = cc
    pick deeper false e g = elim (or_cases (is_same_pair p q) (is_member is_same_pair qs p) m) [
      | inl same ↦ both_ways (nat_eq (place q) c) e (eq-eqb (place q) c (ap place (sym ((told p q).0 same)) ∙ s))
      | inr later ↦ deeper g later
    ]

pub on_only : PairsAreTold → (place : Pair → ℕ) (c : ℕ) (ps : List Pair) (p : Pair) → Has ps p → place p ≡ c → ((q : Pair) → Has ps q
    → place q ≡ c → q ≡ p) → on_place place c ps ≡ Some p
on_only told place c ps p m s only = pick (on_place place c ps) refl
  where
    pick : (x : Option Pair) → on_place place c ps ≡ x → on_place place c ps ≡ Some p
    pick None e = absurd (on_none told place c ps p e m s)
    pick (Some q) e = let r = on_found told place c ps q e in e ∙ ap Some (only q r.0 r.1)

on_empty : PairsAreTold → (place : Pair → ℕ) (c : ℕ) (ps : List Pair) → ((q : Pair) → Has ps q → place q ≡ c → ⊥) → on_place place c ps ≡ None
on_empty told place c ps none = pick (on_place place c ps) refl
  where
    pick : (x : Option Pair) → on_place place c ps ≡ x → on_place place c ps ≡ None
    pick None e = e
    pick (Some q) e = let r = on_found told place c ps q e in absurd (none q r.0 r.1)

-- ---- a run goes on, or it begins

goes_on : (at : ℕ → List Pair) (row : ℕ → ℕ) (k : ℕ) (p : Pair) → Has (at k) p → place_at at row (suc k) p ≡ place_at at row k p
goes_on at row k p h = ap (λ b. row (cond b (since is_same_pair at p k) (suc k))) h

is_new : (at : ℕ → List Pair) (row : ℕ → ℕ) (k : ℕ) (p : Pair) → is_member is_same_pair (at k) p ≡ false → place_at at row (suc k) p ≡ row (suc k)
is_new at row k p h = ap (λ b. row (cond b (since is_same_pair at p k) (suc k))) h

-- a pair that stays on its place
pub stay_some : (ps : List Pair) (p : Pair) → Has ps p → stay ps (Some p) ≡ Some p
stay_some ps p h = ap (λ b. cond b (Some p) None) h

stay_gone : (ps : List Pair) (p : Pair) → is_member is_same_pair ps p ≡ false → stay ps (Some p) ≡ None
stay_gone ps p h = ap (λ b. cond b (Some p) None) h

-- a place on which no run begins has what stays
stays_on : PairsAreTold → (at : ℕ → List Pair) (row : ℕ → ℕ) (n k c : ℕ) → AreApart at row n k
    → ((q : Pair) → Has (at (suc k)) q → Has (at k) q ⊎ (place_at at row (suc k) q ≢ c))
    → pair_on at row c (suc k) ≡ stay (at (suc k)) (pair_on at row c k)
stays_on told at row n k c runs old = pick (pair_on at row c k) refl
  where
    pick : (x : Option Pair) → pair_on at row c k ≡ x → pair_on at row c (suc k) ≡ stay (at (suc k)) x
    pick None e = on_empty told (place_at at row (suc k)) c (at (suc k)) (λ q m s. elim (old q m) [
      | inl h ↦ on_none told (place_at at row k) c (at k) q e h (sym (goes_on at row k q h) ∙ s)
      | inr other ↦ other s
    ])
    pick (Some p) e = by_it (is_member is_same_pair (at (suc k)) p) refl
      where
        there : Has (at k) p × (place_at at row k p ≡ c)
        there = on_found told (place_at at row k) c (at k) p e

        same : (q : Pair) → Has (at (suc k)) q → place_at at row (suc k) q ≡ c → q ≡ p
        same q m s = elim (old q m) [
          | inl h ↦ runs.apart q p h there.0 (sym (goes_on at row k q h) ∙ s ∙ sym there.1)
          | inr other ↦ absurd (other s)
        ]

        by_it : (b : Bool) → is_member is_same_pair (at (suc k)) p ≡ b → pair_on at row c (suc k) ≡ stay (at (suc k)) (Some p)
        by_it true h = on_only told (place_at at row (suc k)) c (at (suc k)) p h (goes_on at row k p there.0 ∙ there.1) same
            ∙ sym (stay_some (at (suc k)) p h)
        by_it false h =
            on_empty told (place_at at row (suc k)) c (at (suc k)) (λ q m s. both_ways (is_member is_same_pair (at (suc k)) p) h (subst (Has (at
            (suc k))) (same q m s) m))
            ∙ sym (stay_gone (at (suc k)) p h)

-- ---- at first

none_there : (ps : List Pair) (p : Pair) → ps ≡ [] → Has ps p → ⊥
none_there ps p e h = both_ways false refl (ap (λ xs. is_member is_same_pair xs p) (sym e) ∙ h)

pub at_first : (at : ℕ → List Pair) (row : ℕ → ℕ) (from : ℕ → ℕ → State) (ss : List Seen) → at 0 ≡ [] → ((c : ℕ) → from c 0 ≡ default_state)
    → AllAreNowhere ss
    → HasPlaces at row from 0 ss
at_first at row from ss none first nothing = record {
  runs = record { within = λ p h. absurd (none_there (at 0) p none h); apart = λ p q h g e. absurd (none_there (at 0) p none h) };
  on = λ c l. ap (λ s. s.pair) (nothing c) ∙ sym (ap (on_place (place_at at row 0) c) none);
  since = λ c l h. ap (λ s. s.since) (nothing c);
  left = λ c l h. ap (λ s. s.left) (nothing c) ∙ sym (first c);
}

-- ---- pairs leave

-- since when a place is free, on which a pair was at the last position
taken_then : (at : ℕ → List Pair) (row : ℕ → ℕ) (c k : ℕ) (p : Pair) → at 0 ≡ [] → pair_on at row c k ≡ Some p → free_since at row c k ≡ suc k
taken_then at row c zero p none h = let e : None ≡ Some p = sym (ap (on_place (place_at at row 0) c) none) ∙ h in absurd cc
taken_then at row c (suc k) p none h = ap (λ x. cond (is_taken x) (suc (suc k)) (free_since at row c k)) h

pub frees : PairsAreTold → (at : ℕ → List Pair) (row : ℕ → ℕ) (from : ℕ → ℕ → State) (k : ℕ) (ss : List Seen) (holds : Pair
    → Bool) (leaves : Pair → Option State)
    → at 0 ≡ [] → HasPlaces at row from k ss → TellsLeaving at row from k ss holds leaves
    → HasLeft at row from k (map (leave holds leaves (suc k)) ss)
frees told at row from k ss holds leaves none has tells = record {
  runs = subst (λ n. AreApart at row n k) (sym long) has.runs;
  on = λ c l. (one c (shorter c l)).0;
  since = λ c l h. (one c (shorter c l)).1 h;
  left = λ c l h. (one c (shorter c l)).2 h;
}
  where
    gone : List Seen
    gone = map (leave holds leaves (suc k)) ss

    long : length gone ≡ length ss
    long = length-map ss (leave holds leaves (suc k))

    shorter : (c : ℕ) → c < length gone → c < length ss
    shorter c l = omega (arith, l, long)

    Freed : ℕ → Seen → Type 0
    Freed c s = (s.pair ≡ stay (at (suc k)) (pair_on at row c k)) × (s.pair ≡ None → s.since ≡ free_since at row c k) × (s.pair ≡ None
        → s.left ≡ from c k)

    one : (c : ℕ) → c < length ss → Freed c (seen_at gone c)
    one c l = subst (Freed c) (sym (get_or-map (leave holds leaves (suc k)) ss c nowhere nowhere l)) (pick (seen_at ss c).pair refl)
      where
        pick : (x : Option Pair) → (seen_at ss c).pair ≡ x → Freed c (leave_if holds leaves (suc k) x (seen_at ss c))
        pick None e = (e ∙ sym (ap (stay (at (suc k))) (sym (has.on c l) ∙ e)), has.since c l, has.left c l)
        pick (Some p) e = by_it (is_member is_same_pair (at (suc k)) p) refl
          where
            here : pair_on at row c k ≡ Some p
            here = sym (has.on c l) ∙ e

            there : Has (at k) p
            there = (on_found told (place_at at row k) c (at k) p here).0

            by_it : (b : Bool) → is_member is_same_pair (at (suc k)) p ≡ b → Freed c (leave_if holds leaves (suc k) (Some p) (seen_at ss c))
            by_it true h = subst (λ b. Freed c (cond b (seen_at ss c) (record {
              pair = None;
              left = or_kept (seen_at ss c).left (leaves p);
              since =
                  suc k;
            }))) (sym (tells.stays p there ∙ h))
                (e ∙ sym (ap (stay (at (suc k))) here ∙ stay_some (at (suc k)) p h), (λ g. has.since c l g), (λ g. has.left c l g))
            by_it false h = subst (λ b. Freed c (cond b (seen_at ss c) (record {
              pair = None;
              left = or_kept (seen_at ss c).left (leaves p);
              since
                  = suc k;
            }))) (sym (tells.stays p there ∙ h)) (
              sym (ap (stay (at (suc k))) here ∙ stay_gone (at (suc k)) p h),
              (λ g. sym (taken_then at row c k p none here)),
              (λ g. tells.left c
                  p l here h),
            )

pub clears : PairsAreTold → (at : ℕ → List Pair) (row : ℕ → ℕ) (from : ℕ → ℕ → State) (k : ℕ) (ss : List Seen)
    → at 0 ≡ [] → HasPlaces at row from k ss → at (suc k) ≡ [] → ((c : ℕ) → from c (suc k) ≡ default_state)
    → HasPlaces at row from (suc k) (map (clear (suc k)) ss)
clears told at row from k ss none has empty first = record {
  runs = record { within = λ p h. absurd (none_there (at (suc k)) p empty h); apart = λ p q h g e. absurd (none_there (at (suc k)) p empty h) };
  on = λ c l. ap (λ s. s.pair) (at_it c (shorter c l)) ∙ sym (nothing c);
  since = λ c l h. ap (λ s. s.since) (at_it c (shorter c l)) ∙ freed c (shorter c l)
      ∙ sym (ap (λ x. cond (is_taken x) (suc (suc k)) (free_since at row c k)) (nothing c));
  left = λ c l h. ap (λ s. s.left) (at_it c (shorter c l)) ∙ sym (first c);
}
  where
    shorter : (c : ℕ) → c < length (map (clear (suc k)) ss) → c < length ss
    shorter c l = let long = length-map ss (clear (suc k)) in omega (arith, l, long)

    at_it : (c : ℕ) → c < length ss → seen_at (map (clear (suc k)) ss) c ≡ clear (suc k) (seen_at ss c)
    at_it c l = get_or-map (clear (suc k)) ss c nowhere nowhere l

    nothing : (c : ℕ) → pair_on at row c (suc k) ≡ None
    nothing c = ap (on_place (place_at at row (suc k)) c) empty

    freed : (c : ℕ) → c < length ss → cond (is_some (seen_at ss c).pair) (suc k) (seen_at ss c).since ≡ free_since at row c k
    freed c l = pick (seen_at ss c).pair refl
      where
        pick : (x : Option Pair) → (seen_at ss c).pair ≡ x → cond (is_some x) (suc k) (seen_at ss c).since ≡ free_since at row c k
        pick None e = has.since c l e
        pick (Some p) e = sym (taken_then at row c k p none (sym (has.on c l) ∙ e))

-- ---- the next position

still_free : (at : ℕ → List Pair) (row : ℕ → ℕ) (c k : ℕ) → pair_on at row c (suc k) ≡ None → free_since at row c (suc k) ≡ free_since at row c k
still_free at row c k h = ap (λ x. cond (is_taken x) (suc (suc k)) (free_since at row c k)) h

pub none_begins : PairsAreTold → (at : ℕ → List Pair) (row : ℕ → ℕ) (from : ℕ → ℕ → State) (k : ℕ) (ss : List Seen)
    → HasLeft at row from k ss → ((p : Pair) → Has (at (suc k)) p → Has (at k) p) → IsLeftAlone at row from k → HasPlaces at row from (suc k) ss
none_begins told at row from k ss left old alone = record {
  runs = record {
    within = λ p h. subst (λ m. m < length ss) (sym (goes_on at row k p (old p h))) (left.runs.within p (old p h));
    apart = λ p q h g e. left.runs.apart p q (old p h) (old q g) (sym (goes_on at row k p (old p h)) ∙ e ∙ goes_on at row k q (old q g));
  };
  on = λ c l. left.on c l ∙ sym (stays c);
  since = λ c l h. left.since c l h ∙ sym (still_free at row c k (free c l h));
  left = λ c l h. left.left c l h ∙ sym (alone c (free c l h));
}
  where
    stays : (c : ℕ) → pair_on at row c (suc k) ≡ stay (at (suc k)) (pair_on at row c k)
    stays c = stays_on told at row (length ss) k c left.runs (λ q m. inl (old q m))

    free : (c : ℕ) → c < length ss → (seen_at ss c).pair ≡ None → pair_on at row c (suc k) ≡ None
    free c l h = stays c ∙ sym (left.on c l) ∙ h

-- a run begins where its pair was not
new_there : (at : ℕ → List Pair) (k : ℕ) (p : Pair) → begins is_same_pair at k p ≡ true
    → Has (at (suc k)) p × (is_member is_same_pair (at k) p ≡ false)
new_there at k p h = let two = and_parts (is_member is_same_pair (at (suc k)) p) (not (is_member is_same_pair (at k) p)) h in (
  two.0,
  pick
      (is_member is_same_pair (at k) p) two.1,
)
  where
    pick : (b : Bool) → not b ≡ true → b ≡ false
    pick true e = absurd cc
    pick false e = refl

-- what is free right before a run begins has no pair that stays
free_before : PairsAreTold → (at : ℕ → List Pair) (row : ℕ → ℕ) (n k c : ℕ) (q : Pair) → AreApart at row n k
    → stay (at (suc k)) (pair_on at row c k) ≡ None
    → Has (at k) q → Has (at (suc k)) q → place_at at row k q ≡ c → ⊥
free_before told at row n k c q runs free old new s =
    let e : pair_on at row c k ≡ Some q = on_only told (place_at at row k) c (at k) q old s (λ r m t. runs.apart r q m old (t ∙ sym s)) in
    let g : Some q ≡ None = sym (stay_some (at (suc k)) q new) ∙ ap (stay (at (suc k))) (sym e) ∙ free in
    cc

pub one_begins : PairsAreTold → (at : ℕ → List Pair) (row : ℕ → ℕ) (from : ℕ → ℕ → State) (k : ℕ) (ss : List Seen) (p : Pair) (c : ℕ)
    → HasLeft at row from k ss → OnlyBegins at k p → c < length ss → (seen_at ss c).pair ≡ None → row (suc k) ≡ c → IsLeftAlone at row from k
    → HasPlaces at row from (suc k) (begin_on ss c p)
one_begins told at row from k ss p c left news l free to alone = record {
  runs = record {
    within = λ q m. subst (λ n. place_at at row (suc k) q < n) (sym long) (elim (news.only q m) [
      | inl h ↦ subst (λ x. x < length ss) (sym (goes_on at row k q h)) (left.runs.within q h)
      | inr e ↦ subst (λ x. x < length ss) (sym (ap (place_at at row (suc k)) e ∙ its)) l
    ]);
    apart = apart;
  };
  on = on;
  since = λ d m h. (other d m h).0;
  left = λ d m h. (other d m h).1;
}
  where
    put : Seen
    put = record { pair = Some p; left = (seen_at ss c).left; since = (seen_at ss c).since }

    new : Has (at (suc k)) p × (is_member is_same_pair (at k) p ≡ false)
    new = new_there at k p news.here

    its : place_at at row (suc k) p ≡ c
    its = is_new at row k p new.1 ∙ to

    long : length (begin_on ss c p) ≡ length ss
    long = length-set ss c put

    none_stays : stay (at (suc k)) (pair_on at row c k) ≡ None
    none_stays = sym (left.on c l) ∙ free

    not_there : (q : Pair) → Has (at k) q → Has (at (suc k)) q → place_at at row (suc k) q ≡ c → ⊥
    not_there q h m s = free_before told at row (length ss) k c q left.runs none_stays h m (sym (goes_on at row k q h) ∙ s)

    apart : (q r : Pair) → Has (at (suc k)) q → Has (at (suc k)) r → place_at at row (suc k) q ≡ place_at at row (suc k) r → q ≡ r
    apart q r m n e = elim (news.only q m) [
      | inl h ↦ elim (news.only r n) [
        | inl g ↦ left.runs.apart q r h g (sym (goes_on at row k q h) ∙ e ∙ goes_on at row k r g)
        | inr same ↦ absurd (not_there q h m (e ∙ ap (place_at at row (suc k)) same ∙ its))
      ]
      | inr same ↦ elim (news.only r n) [
        | inl g ↦ absurd (not_there r g n (sym e ∙ ap (place_at at row (suc k)) same ∙ its))
        | inr equal ↦ same ∙ sym equal
      ]
    ]

    stays : (d : ℕ) → d ≢ c → pair_on at row d (suc k) ≡ stay (at (suc k)) (pair_on at row d k)
    stays d differs = stays_on told at row (length ss) k d left.runs (λ q m. elim (news.only q m) [
      | inl h ↦ inl h
      | inr e ↦ inr (λ s. differs (sym s ∙ ap (place_at at row (suc k)) e ∙ its))
    ])

    on : (d : ℕ) → d < length (begin_on ss c p) → (seen_at (begin_on ss c p) d).pair ≡ pair_on at row d (suc k)
    on d m = elim (cases_eq d c) [
      | inl e ↦ ap (λ x. (seen_at (begin_on ss c p) x).pair) e ∙ ap (λ s. s.pair) (get_or-set_same ss c put nowhere l)
          ∙ sym (ap (λ x. pair_on at row x (suc k)) e ∙ on_only told (place_at at row (suc k)) c (at (suc k)) p new.0 its (λ q n s. apart q p n
          new.0 (s ∙ sym its)))
      | inr n ↦ ap (λ s. s.pair) (get_or-set_other ss c d put nowhere n) ∙ left.on d (omega (arith, m, long)) ∙ sym (stays d n)
    ]

    Kept : ℕ → Type 0
    Kept d = ((seen_at (begin_on ss c p) d).since ≡ free_since at row d (suc k)) × ((seen_at (begin_on ss c p) d).left ≡ from d (suc k))

    other : (d : ℕ) → d < length (begin_on ss c p) → (seen_at (begin_on ss c p) d).pair ≡ None → Kept d
    other d m h = elim (cases_eq d c) [
      | inl e ↦ (let g : Some p ≡ None = sym (ap (λ x. (seen_at (begin_on ss c p) x).pair) e
          ∙ ap (λ s. s.pair) (get_or-set_same ss c put nowhere l)) ∙ h in absurd cc)
      | inr n ↦
          let as_was = get_or-set_other ss c d put nowhere n in
          let o : d < length ss = omega (arith, m, long) in
          let was : (seen_at ss d).pair ≡ None = sym (ap (λ s. s.pair) as_was) ∙ h in
          let now : pair_on at row d (suc k) ≡ None = stays d n ∙ sym (left.on d o) ∙ was in (
            ap (λ s. s.since) as_was ∙ left.since d o was ∙ sym (still_free at row d k now),
            ap (λ s. s.left) as_was ∙ left.left d o was
                ∙ sym (alone d now),
          )
    ]

-- ---- the choice

pub none_taken : (at : ℕ → List Pair) (row : ℕ → ℕ) (k n : ℕ) (cost : Pair → ℕ → ℕ → ℕ)
    → TakesBest at k n cost row → ((p : Pair) → Has (at (suc k)) p → Has (at k) p) → TakesBest at (suc k) n cost row
none_taken at row k n cost takes old = record {
  within = λ j p l b. takes.within j p (sooner j p l b) b;
  free = λ j p l b. takes.free j p (sooner j p l b) b;
  best = λ j p c l b. takes.best j p c (sooner j p l b) b;
}
  where
    sooner : (j : ℕ) (p : Pair) → j < suc k → begins is_same_pair at j p ≡ true → j < k
    sooner j p l b = elim (cases_lt j k) [
      | inl h ↦ h
      | inr h ↦
          let e : j ≡ k = omega (arith, l, h) in
          let new = new_there at k p (subst (λ x. begins is_same_pair at x p ≡ true) e b) in
          absurd (both_ways (is_member is_same_pair (at k) p) new.1 (old p new.0))
    ]

-- a place is free exactly where no pair stays on it
free_then : PairsAreTold → (at : ℕ → List Pair) (row : ℕ → ℕ) (k c : ℕ) → IsFree is_same_pair at row k c
    → stay (at (suc k)) (pair_on at row c k) ≡ None
free_then told at row k c free = pick (pair_on at row c k) refl
  where
    pick : (x : Option Pair) → pair_on at row c k ≡ x → stay (at (suc k)) x ≡ None
    pick None e = refl
    pick (Some q) e =
        let there = on_found told (place_at at row k) c (at k) q e in
        stay_gone (at (suc k)) q (false_from_ne_true (is_member is_same_pair (at (suc k)) q) (λ m. free q m there.0 there.1))

pub one_free : PairsAreTold → (at : ℕ → List Pair) (row : ℕ → ℕ) (from : ℕ → ℕ → State) (k : ℕ) (ss : List Seen)
    → HasLeft at row from k ss → HasRoom is_same_pair at (length ss) row k → (c : ℕ) × (c < length ss) × ((seen_at ss c).pair ≡ None)
one_free told at row from k ss left room = (room.0, room.1, left.on room.0 room.1 ∙ free_then told at row k room.0 room.2)

pub best_taken : PairsAreTold → (at : ℕ → List Pair) (row : ℕ → ℕ) (from : ℕ → ℕ → State) (k : ℕ) (ss : List Seen) (p : Pair) (c : ℕ) (wanted :
    State) (cost : Pair → ℕ → ℕ → ℕ)
    → TakesBest at k (length ss) cost row → HasLeft at row from k ss → OnlyBegins at k p → IsBestSeen ss wanted c → row (suc k) ≡ c
    → ((d : ℕ) → cost p d k ≡ length (bring 0 (from d k) wanted))
    → TakesBest at (suc k) (length ss) cost row
best_taken told at row from k ss p c wanted cost takes left news chosen to costs = record {
  within = λ j q l b. elim (cases_lt j k) [
    | inl h ↦ takes.within j q h b
    | inr h ↦ let e : j ≡ k = omega (arith, l, h) in subst (λ x. row (suc x) < length ss) (sym e) (subst (λ x. x < length ss) (sym to)
        chosen.within)
  ];
  free = λ j q l b. elim (cases_lt j k) [
    | inl h ↦ takes.free j q h b
    | inr h ↦ let e : j ≡ k = omega (arith, l, h) in subst (λ x. IsFree is_same_pair at row x (row (suc x))) (sym e) (subst (IsFree is_same_pair at
        row k) (sym to) is_free)
  ];
  best = λ j q d l b m f. elim (cases_lt j k) [
    | inl h ↦ takes.best j q d h b m f
    | inr h ↦
        let e : j ≡ k = omega (arith, l, h) in
        subst (λ x. IsNoWorse (λ i. cost q i x) (λ i. free_since at row i x) (row (suc x)) d) (sym e)
        (subst (λ x. IsNoWorse (λ i. cost q i k) (λ i. free_since at row i k) x d) (sym to)
        (by_best q (subst (λ x. begins is_same_pair at x q ≡ true) e b) d m (subst (λ x. IsFree is_same_pair at row x d) e f)))
  ];
}
  where
    is_free : IsFree is_same_pair at row k c
    is_free q m h s = free_before told at row (length ss) k c q left.runs (sym (left.on c chosen.within) ∙ chosen.free) h m s

    by_best : (q : Pair) → begins is_same_pair at k q ≡ true → (d : ℕ) → d < length ss → IsFree is_same_pair at row k d
        → IsNoWorse (λ i. cost q i k) (λ i. free_since at row i k) c d
    by_best q b d m f =
        let new = new_there at k q b in
        let same : q ≡ p = elim (news.only q new.0) [ inl h ↦ absurd (both_ways (is_member is_same_pair (at k) q) new.1 h) | inr e ↦ e ] in
        let free : (seen_at ss d).pair ≡ None = left.on d m ∙ free_then told at row k d f in
        let price = λ (i : ℕ) (l : i < length ss) (g : (seen_at ss i).pair ≡ None). ap (λ x. cost x i k) same ∙ costs i
        ∙ ap (λ s. length (bring 0 s wanted)) (sym (left.left i l g)) in
        let cc_ : cost q c k ≡ length (bring 0 (seen_at ss c).left wanted) = price c chosen.within chosen.free in
        let cd : cost q d k ≡ length (bring 0 (seen_at ss d).left wanted) = price d m free in
        let sc : (seen_at ss c).since ≡ free_since at row c k = left.since c chosen.within chosen.free in
        let sd : (seen_at ss d).since ≡ free_since at row d k = left.since d m free in
        elim (chosen.best d m free) [
          | inl less ↦ inl (omega (arith, less, cc_, cd))
          | inr same_cost ↦ inr (
            cc_ ∙ same_cost.0 ∙ sym cd,
            elim same_cost.1 [
              | inl longer ↦ inl (omega (arith, longer, sc, sd))
              | inr equal ↦ inr (sym sc ∙ equal.0 ∙ sd, equal.1)
            ],
          )
        ]
