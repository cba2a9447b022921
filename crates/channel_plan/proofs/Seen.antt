-- What the places of a row say, one by one.
use Rattle.std.proofs.Common.{◌≡◌, ◌≤◌, ◌<◌, ◌+◌, ◌++◌, ℕ, zero, suc, Bool, if◌then◌else◌, IfSome, List, [], ◌∷◌, true, false, not, Option, Some, None, is_some, length, map, take, drop, get_or, set, refl, sym, ap, ◌∙◌, arith, inl, inr}
use Rattle.std.specs.Option.{option_map}
use Rattle.std.proofs.lemmas.Bool.{cases_lt}
use Rattle.std.proofs.lemmas.List.{length-map, get_or-map, map-set}
use Rattle.std.proofs.lemmas.List.Edits.{map_over_more}
use Rattle.midi_model.specs.Channel.{State}
use Rattle.midi_model.specs.Bring.{bring}
use Rattle.mt_base.specs.declared.pair.Pair.{Pair as Packed}
use Rattle.retune_model.specs.Pairs.{Pair}
use Rattle.lifetimes.specs.Views.{pair_of}
use Rattle.plan_laws.specs.Placing.{Seen, nowhere, seen_at, leave, leave_if, or_kept, begun_on, begin_on, IsBestSeen}
use Rattle.plan_laws.specs.PlacingLaws.{AllAreNowhere}
use Rattle.channel_plan.specs.declared.choice.Place.{Place}
use Rattle.channel_plan.specs.Choosing.{setup_at, since_at, is_free_at, IsChosen, AreTaken}
use Rattle.channel_plan.specs.Seeing.{seen, all_seen}

-- each place of a row
pub seen_there : (places : List Place) (c : ℕ) (d : Place) → c < length places → seen_at (all_seen places) c ≡ seen (get_or places c d)
seen_there places c d l = get_or-map seen places c d nowhere l

pub begun_there : (places : List Place) (c : ℕ) (d x : Place) (p : Pair) → c < length places → seen x ≡ begun_on p (seen (get_or places c d))
    → all_seen (set places c x) ≡ begin_on (all_seen places) c p
begun_there places c d x p l e = map-set seen places c x ∙ ap (set (all_seen places) c) (e ∙ ap (begun_on p) (sym (seen_there places c d l)))

-- ---- all places, one after another

-- one place more is as f makes it
pub one_done : (f : Seen → Seen) (xs : List Seen) (places : List Place) (i : ℕ) (d x : Place) → i < length places → length places ≡ length xs
    → all_seen places ≡ map f (take i xs) ++ drop i xs → seen x ≡ f (seen (get_or places i d))
    → all_seen (set places i x) ≡ map f (take (i + 1) xs) ++ drop (i + 1) xs
one_done f xs places i d x l same done e =
    map-set seen places i x
    ∙ ap (set (all_seen places) i) (e ∙ ap f (sym (seen_there places i d l)))
    ∙ map_over_more f xs (all_seen places) i (seen_at (all_seen places) i) (omega (arith, l, same)) done
    (let long = length-map places seen in get_or_any (all_seen places) i nowhere (omega (arith, l, long)))
  where
    get_or_any : (ys : List Seen) (j : ℕ) (y : Seen) → j < length ys → get_or ys j y ≡ get_or ys j (get_or ys j y)
    get_or_any [] j y m = refl
    get_or_any (z ∷ ys) zero y m = refl
    get_or_any (z ∷ ys) (suc j) y m = get_or_any ys j y (omega (arith, m))

-- a place that is still to come is as it was
pub still_there : (f : Seen → Seen) (xs : List Seen) (places : List Place) (i : ℕ) (d : Place) → i < length places → length places ≡ length xs
    → all_seen places ≡ map f (take i xs) ++ drop i xs → seen (get_or places i d) ≡ seen_at xs i
still_there f xs places i d l same done =
    sym (seen_there places i d l) ∙ ap (λ ys. seen_at ys i) done ∙ after_it f xs i (omega (arith, l, same))
  where
    after_it : (f : Seen → Seen) (xs : List Seen) (i : ℕ) → i < length xs → seen_at (map f (take i xs) ++ drop i xs) i ≡ seen_at xs i
    after_it f [] i m = absurd (omega (arith, m))
    after_it f (x ∷ xs) zero m = refl
    after_it f (x ∷ xs) (suc i) m = after_it f xs i (omega (arith, m))

pub then_some : (x : Option Pair) (P Q : Pair → Type 0) → ((p : Pair) → P p → Q p) → IfSome x P → IfSome x Q
then_some None P Q f h = tt
then_some (Some p) P Q f h = f p h

-- where the pair of each place is held, all are as they were
pub all_held : (holds : Pair → Bool) (leaves : Pair → Option State) (k : ℕ) (ss : List Seen)
    → ((c : ℕ) → IfSome (seen_at ss c).pair (λ p. holds p ≡ true)) → map (leave holds leaves k) ss ≡ ss
all_held holds leaves k [] held = refl
all_held holds leaves k (s ∷ ss) held =
    ap (λ l. leave holds leaves k s ∷ l) (all_held holds leaves k ss (λ c. held (suc c))) ∙ ap (λ t. t ∷ ss) (one s.pair (held zero))
  where
    one : (x : Option Pair) → IfSome x (λ p. holds p ≡ true) → leave_if holds leaves k x s ≡ s
    one None h = refl
    one (Some p) h = ap (λ b. if b then s else (record { pair = None; left = or_kept s.left (leaves p); since = k })) h

-- one free place more
pub nowhere_more : (places : List Place) (x : Place) → AllAreNowhere (all_seen places) → seen x ≡ nowhere
    → AllAreNowhere (all_seen (places ++ x ∷ []))
nowhere_more [] x h e zero = e
nowhere_more [] x h e (suc c) = refl
nowhere_more (y ∷ ys) x h e zero = h zero
nowhere_more (y ∷ ys) x h e (suc c) = nowhere_more ys x (λ d. h (suc d)) e c

-- ---- a pair that is looked for

-- no place before a position has it
pub none_yet : (places : List Place) (i : ℕ) (d : Place) (p : Pair) → i < length places → ((seen (get_or places i d)).pair ≡ Some p → ⊥)
    → ((c : ℕ) → c < i → (seen_at (all_seen places) c).pair ≡ Some p → ⊥) → (c : ℕ) → c < i + 1 → (seen_at (all_seen places) c).pair ≡ Some p → ⊥
none_yet places i d p l not_here before c m h = elim (cases_lt c i) [
  | inl g ↦ before c g h
  | inr g ↦ (let e : c ≡ i = omega (arith, m, g) in
      not_here (ap (λ s. s.pair) (sym (seen_there places i d l)) ∙ ap (λ j. (seen_at (all_seen places) j).pair) (sym e) ∙ h))
]

-- nor one beyond them
pub none_beyond : (places : List Place) (p : Pair) → ((c : ℕ) → c < length places → (seen_at (all_seen places) c).pair ≡ Some p → ⊥)
    → (c : ℕ) → (seen_at (all_seen places) c).pair ≡ Some p → ⊥
none_beyond places p none c h = elim (cases_lt c (length places)) [
  | inl l ↦ none c l h
  | inr l ↦ (let e : None ≡ Some p = sym (ap (λ s. s.pair) (beyond places c l)) ∙ h in absurd cc)
]
  where
    beyond : (xs : List Place) (c : ℕ) → length xs ≤ c → seen_at (all_seen xs) c ≡ nowhere
    beyond [] c l = refl
    beyond (x ∷ xs) zero l = absurd (omega (arith, l))
    beyond (x ∷ xs) (suc c) l = beyond xs c (omega (arith, l))

-- ---- the choice

free_none : (x : Option Packed) → not (is_some x) ≡ true → option_map pair_of x ≡ None
free_none None h = refl
free_none (Some p) h = absurd cc

none_free : (x : Option Packed) → option_map pair_of x ≡ None → not (is_some x) ≡ true
none_free None h = refl
none_free (Some p) h = absurd cc

free_seen : (places : List Place) (c : ℕ) → c < length places → is_free_at places c ≡ true → (seen_at (all_seen places) c).pair ≡ None
free_seen [] c l h = absurd (omega (arith, l))
free_seen (x ∷ xs) zero l h = free_none x.pair h
free_seen (x ∷ xs) (suc c) l h = free_seen xs c (omega (arith, l)) h

seen_free : (places : List Place) (c : ℕ) → c < length places → (seen_at (all_seen places) c).pair ≡ None → is_free_at places c ≡ true
seen_free [] c l h = absurd (omega (arith, l))
seen_free (x ∷ xs) zero l h = none_free x.pair h
seen_free (x ∷ xs) (suc c) l h = seen_free xs c (omega (arith, l)) h

setup_seen : (places : List Place) (w : State) (c : ℕ) → c < length places → setup_at places w c ≡ length (bring 0 (seen_at (all_seen places) c).left
    w)
setup_seen [] w c l = absurd (omega (arith, l))
setup_seen (x ∷ xs) w zero l = refl
setup_seen (x ∷ xs) w (suc c) l = setup_seen xs w c (omega (arith, l))

since_seen : (places : List Place) (c : ℕ) → c < length places → since_at places c ≡ (seen_at (all_seen places) c).since
since_seen [] c l = absurd (omega (arith, l))
since_seen (x ∷ xs) zero l = refl
since_seen (x ∷ xs) (suc c) l = since_seen xs c (omega (arith, l))

pub chosen_best : (places : List Place) (w : State) (c : ℕ) → IsChosen places w c → IsBestSeen (all_seen places) w c
chosen_best places w c is = record {
  within = (let l = is.within in omega (arith, l, long));
  free = free_seen places c is.within is.free;
  best = λ d l h.
      let m : d < length places = omega (arith, l, long) in
      let sc = setup_seen places w c is.within in
      let sd = setup_seen places w d m in
      let tc = since_seen places c is.within in
      let td = since_seen places d m in
      elim (is.best d m (seen_free places d m h)) [
        | inl less ↦ inl (omega (arith, less, sc, sd))
        | inr same ↦ inr (
          sym sc ∙ same.0 ∙ sd,
          elim same.1 [
            | inl longer ↦ inl (omega (arith, longer, tc, td))
            | inr equal ↦ inr (
              sym tc ∙ equal.0
                  ∙ td,
              equal.1,
            )
          ],
        )
      ];
}
  where
    long : length (all_seen places) ≡ length places
    long = length-map places seen

pub taken_none : (places : List Place) → AreTaken places → (c : ℕ) → c < length (all_seen places) → (seen_at (all_seen places) c).pair ≡ None → ⊥
taken_none places taken c l h =
    let long = length-map places seen in
    let m : c < length places = omega (arith, l, long) in
    let a = seen_free places c m h in
    let b = taken c m in
    let e : true ≡ false = sym a ∙ b in
    absurd cc
