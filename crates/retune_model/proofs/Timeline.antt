-- Notes from position to position, and what holds of those that sound or rest.
use Rattle.std.proofs.Common.{◌≡◌, ◌≤◌, ◌<◌, ◌+◌, ℕ, zero, suc, List, [], ◌∷◌, Bool, true, false, cond, not, ◌&&◌, ◌||◌, Option, Some, None, refl, ap, sym, ◌∙◌, subst, length, get_or, arith, inl, inr, nat_le}
use Rattle.std.specs.List.{AllByRecursion}
use Rattle.std.proofs.lemmas.Bool.{cases_lt, cases_Bool, both_ways, and_parts, and_from, cond-true, cond-false, ltb-true, lt-ltb, le-ltb, leb-true, le-leb, false_from_ne_true}
use Rattle.midi_model.specs.Notes.{Note, sounds}
use Rattle.std.specs.Prelude.{nat_lt, is_some}
use Rattle.midi_model.specs.MusicLaws.{EndsBy, Ages, Grows}
use Rattle.retune_model.specs.Rests.{nobody, last_reset, is_within_tail, lasts, first_with}

-- ---- a list that grows
pub length_grown : (t : ℕ) (b ns xs : List Note) → Grows t b ns xs → length xs ≡ length ns + length b
length_grown t b [] xs g = let e : length xs ≡ length b = ap length g in omega (arith, e)
length_grown t b (n ∷ ns) [] g = absurd g
length_grown t b (n ∷ ns) (x ∷ xs) g = let e : length xs ≡ length ns + length b = length_grown t b ns xs g.1 in omega (arith, e)

pub aged_at : (t : ℕ) (b ns xs : List Note) → Grows t b ns xs → (i : ℕ) → i < length ns → Ages t (get_or ns i nobody) (get_or xs i nobody)
aged_at t b [] xs g i l = absurd (omega (arith, l))
aged_at t b (n ∷ ns) [] g i l = absurd g
aged_at t b (n ∷ ns) (x ∷ xs) g zero l = g.0
aged_at t b (n ∷ ns) (x ∷ xs) g (suc i) l = aged_at t b ns xs g.1 i (omega (arith, l))

pub new_at : (t : ℕ) (b ns xs : List Note) → Grows t b ns xs → (i j : ℕ) → i ≡ length ns + j → get_or xs i nobody ≡ get_or b j nobody
new_at t b [] xs g i j e = ap (λ ys. get_or ys i nobody) g ∙ ap (λ k. get_or b k nobody) (let same : i ≡ j = omega (arith, e) in same)
new_at t b (n ∷ ns) [] g i j e = absurd g
new_at t b (n ∷ ns) (x ∷ xs) g zero j e = absurd (omega (arith, e))
new_at t b (n ∷ ns) (x ∷ xs) g (suc i) j e = new_at t b ns xs g.1 i j (omega (arith, e))

-- ---- one note
abbrev pub lasting : ℕ → ℕ → Option ℕ → Bool
lasting tail t e = not (is_some e) || is_within_tail tail t e

lasting_back : (tail r s : ℕ) (e f : Option ℕ) → EndsBy s e f → r ≤ s → lasting tail s f ≡ true → lasting tail r e ≡ true
lasting_back tail r s None f h l g = refl
lasting_back tail r s (Some e) f h l g = let k : s < e + tail = ltb-true s (e + tail) (ap (lasting tail s) (sym h) ∙ g) in lt-ltb r (e + tail) (omega (arith, k, l))

pub lasts_back : (tail r s : ℕ) (n x : Note) → Ages s n x → r ≤ s → lasts tail s x ≡ true → lasts tail r n ≡ true
lasts_back tail r s n x a l g = lasting_back tail r s n.ended x.ended a.ended l g

silent_ends : (s : ℕ) (e f : Option ℕ) → EndsBy s e f → not (is_some e) ≡ false → not (is_some f) ≡ false
silent_ends s None f h g = absurd cc
silent_ends s (Some e) f h g = ap (λ x. not (is_some x)) h

pub silent_stays : (s : ℕ) (n x : Note) → Ages s n x → sounds n ≡ false → sounds x ≡ false
silent_stays s n x a h = silent_ends s n.ended x.ended a.ended h

pub sounding_lasts : (tail t : ℕ) (n : Note) → sounds n ≡ true → lasts tail t n ≡ true
sounding_lasts tail t n h = ap (λ b. b || is_within_tail tail t n.ended) h

-- an end that lies at or before t
abbrev pub EndedBy : ℕ → Option ℕ → Type 0
EndedBy t None = Unit {0}
EndedBy t (Some e) = e ≤ t

ended_then : (t s : ℕ) (e f : Option ℕ) → t ≤ s → EndedBy t e → EndsBy s e f → EndedBy s f
ended_then t s None None l h k = tt
ended_then t s None (Some f) l h k = omega (arith, k)
ended_then t s (Some e) f l h k = subst (EndedBy s) (sym k) (omega (arith, l, h))

no_tail : (t : ℕ) (e : Option ℕ) → EndedBy t e → lasting 0 t e ≡ not (is_some e)
no_tail t None h = refl
no_tail t (Some e) h = le-ltb t (e + 0) (omega (arith, h))

-- ---- all positions
abbrev pub AtMostOne : List Note → Type 0
AtMostOne [] = Unit {0}
AtMostOne (b ∷ []) = b.ended ≡ None
AtMostOne (b ∷ c ∷ bs) = ⊥

pub record Timeline (at : ℕ → List Note) (tick : ℕ → ℕ) (reset : ℕ → Bool) (begun : ℕ → List Note) : Type 0 where
  pub none : at 0 ≡ []
  pub grows : (k : ℕ) → Grows (tick (suc k)) (begun (suc k)) (at k) (at (suc k))
  pub one : (k : ℕ) → AtMostOne (begun (suc k))
  pub silenced : (k : ℕ) → reset (suc k) ≡ true → AllByRecursion (λ n. sounds n ≡ false) (at (suc k))
  pub not_then : (k : ℕ) → reset (suc k) ≡ true → begun (suc k) ≡ []
  pub order : (k : ℕ) → tick k ≤ tick (suc k)

abbrev pub count : (ℕ → List Note) → ℕ → ℕ
count at k = length (at k)

abbrev pub note : (ℕ → List Note) → ℕ → ℕ → Note
note at k i = get_or (at k) i nobody

few : (bs : List Note) → AtMostOne bs → length bs ≤ 1
few [] h = omega arith
few (b ∷ []) h = omega arith
few (b ∷ c ∷ bs) h = absurd h

pub count_next : {at : ℕ → List Note} {tick : ℕ → ℕ} {reset : ℕ → Bool} {begun : ℕ → List Note} → Timeline at tick reset begun → (k : ℕ) → (count at k ≤ count at (suc k)) × (count at (suc k) ≤ suc (count at k))
count_next {at} {tick} {reset} {begun} T k =
    let e : count at (suc k) ≡ count at k + length (begun (suc k)) = length_grown (tick (suc k)) (begun (suc k)) (at k) (at (suc k)) (T.grows k) in
    let f : length (begun (suc k)) ≤ 1 = few (begun (suc k)) (T.one k) in
    (omega (arith, e), omega (arith, e, f))

pub count_le : {at : ℕ → List Note} {tick : ℕ → ℕ} {reset : ℕ → Bool} {begun : ℕ → List Note} → Timeline at tick reset begun → (j k : ℕ) → j ≤ k → count at j ≤ count at k
count_le {at} T j zero l = let e : j ≡ 0 = omega (arith, l) in subst (λ i. count at i ≤ count at 0) (sym e) (omega arith)
count_le {at} T j (suc k) l = elim (cases_lt k j) [
  | inl g ↦ let e : j ≡ suc k = omega (arith, l, g) in subst (λ i. count at i ≤ count at (suc k)) (sym e) (omega arith)
  | inr g ↦ let a : count at j ≤ count at k = count_le T j k g in let b : count at k ≤ count at (suc k) = (count_next T k).0 in omega (arith, a, b)
]

pub ages : {at : ℕ → List Note} {tick : ℕ → ℕ} {reset : ℕ → Bool} {begun : ℕ → List Note} → Timeline at tick reset begun → (k i : ℕ) → i < count at k → Ages (tick (suc k)) (note at k i) (note at (suc k) i)
ages {at} {tick} {reset} {begun} T k i l = aged_at (tick (suc k)) (begun (suc k)) (at k) (at (suc k)) (T.grows k) i l

-- the note that begins
one_is : (bs : List Note) → AtMostOne bs → 0 < length bs → (bs ≡ get_or bs 0 nobody ∷ []) × ((get_or bs 0 nobody).ended ≡ None)
one_is [] h l = absurd (omega (arith, l))
one_is (b ∷ []) h l = (refl, h)
one_is (b ∷ c ∷ bs) h l = absurd h

pub record IsNew (at begun : ℕ → List Note) (k i : ℕ) : Type 0 where
  pub last : i ≡ count at k
  pub alone : begun (suc k) ≡ note at (suc k) i ∷ []
  pub sounds : sounds (note at (suc k) i) ≡ true

pub new : {at : ℕ → List Note} {tick : ℕ → ℕ} {reset : ℕ → Bool} {begun : ℕ → List Note} → Timeline at tick reset begun → (k i : ℕ) → count at k ≤ i → i < count at (suc k) → IsNew at begun k i
new {at} {tick} {reset} {begun} T k i l h =
    let n = count_next T k in
    let same : i ≡ count at k = omega (arith, l, h, n.1) in
    let e : count at (suc k) ≡ count at k + length (begun (suc k)) = length_grown (tick (suc k)) (begun (suc k)) (at k) (at (suc k)) (T.grows k) in
    let is = one_is (begun (suc k)) (T.one k) (omega (arith, e, l, h)) in
    let here : note at (suc k) i ≡ get_or (begun (suc k)) 0 nobody = new_at (tick (suc k)) (begun (suc k)) (at k) (at (suc k)) (T.grows k) i 0 (omega (arith, same)) in
    record {
      last = same;
      alone = is.0 ∙ ap (λ x. x ∷ []) (sym here);
      sounds = ap (λ (x : Note). not (is_some x.ended)) here ∙ ap (λ x. not (is_some x)) is.1;
    }

-- ---- by the number of a note
abbrev pub past : (ℕ → List Note) → (ℕ → Bool) → ℕ → ℕ
past at reset k = length (at (last_reset reset k))

abbrev pub holds : (ℕ → List Note) → (ℕ → Bool) → (ℕ → ℕ) → ℕ → ℕ → ℕ → Bool
holds at reset tick tail k i = nat_le (past at reset k) i && (nat_lt i (count at k) && lasts tail (tick k) (note at k i))

pub record Holds (at : ℕ → List Note) (reset : ℕ → Bool) (tick : ℕ → ℕ) (tail k i : ℕ) : Type 0 where
  pub later : past at reset k ≤ i
  pub begun : i < count at k
  pub lasts : lasts tail (tick k) (note at k i) ≡ true

pub holds_parts : (at : ℕ → List Note) (reset : ℕ → Bool) (tick : ℕ → ℕ) (tail k i : ℕ) → holds at reset tick tail k i ≡ true → Holds at reset tick tail k i
holds_parts at reset tick tail k i h =
    let a = and_parts (nat_le (past at reset k) i) (nat_lt i (count at k) && lasts tail (tick k) (note at k i)) h in
    let b = and_parts (nat_lt i (count at k)) (lasts tail (tick k) (note at k i)) a.1 in
    record { later = leb-true (past at reset k) i a.0; begun = ltb-true i (count at k) b.0; lasts = b.1 }

pub holds_from : (at : ℕ → List Note) (reset : ℕ → Bool) (tick : ℕ → ℕ) (tail k i : ℕ) → Holds at reset tick tail k i → holds at reset tick tail k i ≡ true
holds_from at reset tick tail k i h =
    and_from (nat_le (past at reset k) i) (nat_lt i (count at k) && lasts tail (tick k) (note at k i)) (le-leb (past at reset k) i h.later)
    (and_from (nat_lt i (count at k)) (lasts tail (tick k) (note at k i)) (lt-ltb i (count at k) h.begun) h.lasts)

pub last_reset_le : (reset : ℕ → Bool) (k : ℕ) → last_reset reset k ≤ k
last_reset_le reset zero = omega arith
last_reset_le reset (suc k) = elim (cases_Bool (reset (suc k))) [
  | inl h ↦ rw h (omega arith)
  | inr h ↦ let l : last_reset reset k ≤ k = last_reset_le reset k in rw h (omega (arith, l))
]

pub past_le : {at : ℕ → List Note} {tick : ℕ → ℕ} {reset : ℕ → Bool} {begun : ℕ → List Note} → Timeline at tick reset begun → (k : ℕ) → past at reset k ≤ count at k
past_le {at} {tick} {reset} T k = count_le T (last_reset reset k) k (last_reset_le reset k)

pub past_kept : (at : ℕ → List Note) (reset : ℕ → Bool) (k : ℕ) → reset (suc k) ≡ false → past at reset (suc k) ≡ past at reset k
past_kept at reset k h = ap (λ b. length (at (cond b (suc k) (last_reset reset k)))) h

pub past_reset : (at : ℕ → List Note) (reset : ℕ → Bool) (k : ℕ) → reset (suc k) ≡ true → past at reset (suc k) ≡ count at (suc k)
past_reset at reset k h = ap (λ b. length (at (cond b (suc k) (last_reset reset k)))) h

-- a note holds where it begins
pub new_holds : {at : ℕ → List Note} {tick : ℕ → ℕ} {reset : ℕ → Bool} {begun : ℕ → List Note} → Timeline at tick reset begun → (tail k i : ℕ) → count at k ≤ i → i < count at (suc k) → Holds at reset tick tail (suc k) i
new_holds {at} {tick} {reset} {begun} T tail k i l h =
    let n : IsNew at begun k i = new T k i l h in
    let none : reset (suc k) ≡ false = false_from_ne_true (reset (suc k)) (λ r.
    let e : length (begun (suc k)) ≡ 0 = ap length (T.not_then k r) in
    let f : length (begun (suc k)) ≡ 1 = ap length n.alone in
    omega (arith, e, f)) in
    let p : past at reset (suc k) ≡ past at reset k = past_kept at reset k none in
    let q : past at reset k ≤ count at k = past_le T k in
    record { later = omega (arith, p, q, l); begun = h; lasts = sounding_lasts tail (tick (suc k)) (note at (suc k) i) n.sounds }

no_reset : {at : ℕ → List Note} {tick : ℕ → ℕ} {reset : ℕ → Bool} {begun : ℕ → List Note} → Timeline at tick reset begun → (tail k i : ℕ) → Holds at reset tick tail (suc k) i → reset (suc k) ≡ false
no_reset {at} {tick} {reset} T tail k i h = false_from_ne_true (reset (suc k)) (λ r.
    let e : past at reset (suc k) ≡ count at (suc k) = past_reset at reset k r in
    let a : past at reset (suc k) ≤ i = h.later in
    let b : i < count at (suc k) = h.begun in
    omega (arith, e, a, b))

-- what holds held before, where it had begun; and it doesn't run out at the event
pub held_before : {at : ℕ → List Note} {tick : ℕ → ℕ} {reset : ℕ → Bool} {begun : ℕ → List Note} → Timeline at tick reset begun → (tail k i : ℕ) → i < count at k → Holds at reset tick tail (suc k) i
    → Holds at reset tick tail k i × (lasts tail (tick (suc k)) (note at k i) ≡ true)
held_before {at} {tick} {reset} {begun} T tail k i l h =
    let p : past at reset (suc k) ≡ past at reset k = past_kept at reset k (no_reset T tail k i h) in
    let a : past at reset (suc k) ≤ i = h.later in
    let age : Ages (tick (suc k)) (note at k i) (note at (suc k) i) = ages T k i l in (
      record { later = omega (arith, p, a); begun = l; lasts = lasts_back tail (tick k) (tick (suc k)) (note at k i) (note at (suc k) i) age (T.order k) h.lasts },
      lasts_back tail (tick (suc k)) (tick (suc k)) (note at k i) (note at (suc k) i) age (omega arith) h.lasts,
    )

-- what sounds began after the last reset
pub silent_past : {at : ℕ → List Note} {tick : ℕ → ℕ} {reset : ℕ → Bool} {begun : ℕ → List Note} → Timeline at tick reset begun → (k i : ℕ) → i < past at reset k → sounds (note at k i) ≡ false
silent_past {at} T zero i l = absurd (let e : count at 0 ≡ 0 = ap length T.none in omega (arith, l, e))
silent_past {at} {tick} {reset} {begun} T (suc k) i l = elim (cases_Bool (reset (suc k))) [
  | inl r ↦ let e : past at reset (suc k) ≡ count at (suc k) = past_reset at reset k r in get_all (at (suc k)) (T.silenced k r) i (omega (arith, e, l))
  | inr r ↦
      let e : past at reset (suc k) ≡ past at reset k = past_kept at reset k r in
      let q : past at reset k ≤ count at k = past_le T k in
      silent_stays (tick (suc k)) (note at k i) (note at (suc k) i) (ages T k i (omega (arith, e, q, l))) (silent_past T k i (omega (arith, e, l)))
]
  where
    get_all : (ns : List Note) → AllByRecursion (λ n. sounds n ≡ false) ns → (j : ℕ) → j < length ns → sounds (get_or ns j nobody) ≡ false
    get_all [] h j l = absurd (omega (arith, l))
    get_all (n ∷ ns) h zero l = h.0
    get_all (n ∷ ns) h (suc j) l = get_all ns h.1 j (omega (arith, l))

pub sounding_holds : {at : ℕ → List Note} {tick : ℕ → ℕ} {reset : ℕ → Bool} {begun : ℕ → List Note} → Timeline at tick reset begun → (tail k i : ℕ) → i < count at k → sounds (note at k i) ≡ true → Holds at reset tick tail k i
sounding_holds {at} {tick} {reset} T tail k i l h = record {
  later = elim (cases_lt i (past at reset k)) [
    | inl g ↦ absurd (both_ways (sounds (note at k i)) (silent_past T k i g) h)
    | inr g ↦ g
  ];
  begun = l;
  lasts = sounding_lasts tail (tick k) (note at k i) h;
}

-- no end lies in the future
pub ended_by : {at : ℕ → List Note} {tick : ℕ → ℕ} {reset : ℕ → Bool} {begun : ℕ → List Note} → Timeline at tick reset begun → (k i : ℕ) → i < count at k → EndedBy (tick k) (note at k i).ended
ended_by {at} T zero i l = absurd (let e : count at 0 ≡ 0 = ap length T.none in omega (arith, l, e))
ended_by {at} {tick} {reset} {begun} T (suc k) i l = elim (cases_lt i (count at k)) [
  | inl g ↦ ended_then (tick k) (tick (suc k)) (note at k i).ended (note at (suc k) i).ended (T.order k) (ended_by T k i g) (ages T k i g).ended
  | inr g ↦ by_sound (note at (suc k) i).ended (new T k i g l).sounds
]
  where
    by_sound : (e : Option ℕ) → not (is_some e) ≡ true → EndedBy (tick (suc k)) e
    by_sound None h = tt
    by_sound (Some e) h = absurd cc

pub lasts_without_tail : (t : ℕ) (n : Note) → EndedBy t n.ended → lasts 0 t n ≡ sounds n
lasts_without_tail t n h = no_tail t n.ended h

-- ---- from where on
pub first_with_below : {at : ℕ → List Note} {tick : ℕ → ℕ} {reset : ℕ → Bool} {begun : ℕ → List Note} → Timeline at tick reset begun → (i last : ℕ) → i < count at last →
    (f : ℕ) × (first_with (count at) i last ≡ suc f) × (suc f ≤ last) × (count at f ≤ i) × (i < count at (suc f))
first_with_below {at} T i zero l = absurd (let e : count at 0 ≡ 0 = ap length T.none in omega (arith, l, e))
first_with_below {at} T i (suc last) l = elim (cases_Bool (nat_lt i (count at last))) [
  | inl h ↦
      let r = first_with_below T i last (ltb-true i (count at last) h) in
      let low : suc r.0 ≤ last = r.2 in
      (r.0, cond-true (nat_lt i (count at last)) (first_with (count at) i last) (suc last) h ∙ r.1, omega (arith, low), r.3, r.4)
  | inr h ↦ (last, cond-false (nat_lt i (count at last)) (first_with (count at) i last) (suc last) h, omega arith, not_below (count at last) i h, l)
]
  where
    not_below : (c j : ℕ) → nat_lt j c ≡ false → c ≤ j
    not_below c j h = elim (cases_lt j c) [
      | inl g ↦ absurd (both_ways (nat_lt j c) h (lt-ltb j c g))
      | inr g ↦ g
    ]

-- ---- how a note came to rest
pub record Rested (at : ℕ → List Note) (tick : ℕ → ℕ) (k i j : ℕ) : Type 0 where
  pub by : j < k
  pub begun : i < count at j
  pub sounded : sounds (note at j i) ≡ true
  pub silent : sounds (note at (suc j) i) ≡ false
  pub ended : (note at k i).ended ≡ Some (tick (suc j))

ends_now : (t : ℕ) (e f : Option ℕ) → EndsBy t e f → not (is_some e) ≡ true → not (is_some f) ≡ false → f ≡ Some t
ends_now t None (Some f) h s q = ap (λ x. Some x) h
ends_now t None None h s q = absurd cc
ends_now t (Some e) f h s q = absurd cc

end_stays : (t u : ℕ) (e f : Option ℕ) → EndsBy t e f → e ≡ Some u → f ≡ Some u
end_stays t u (Some e) f h s = h ∙ s
end_stays t u None f h s = absurd cc

pub came_to_rest : {at : ℕ → List Note} {tick : ℕ → ℕ} {reset : ℕ → Bool} {begun : ℕ → List Note} → Timeline at tick reset begun → (k i : ℕ) → i < count at k → sounds (note at k i) ≡ false → (j : ℕ) × Rested at tick k i j
came_to_rest {at} T zero i l s = absurd (let e : count at 0 ≡ 0 = ap length T.none in omega (arith, l, e))
came_to_rest {at} {tick} {reset} {begun} T (suc k) i l s = elim (cases_lt i (count at k)) [
  | inr g ↦ absurd (both_ways (sounds (note at (suc k) i)) s (new T k i g l).sounds)
  | inl g ↦ elim (cases_Bool (sounds (note at k i))) [
    | inl h ↦ (k, record { by = omega arith; begun = g; sounded = h; silent = s; ended = ends_now (tick (suc k)) (note at k i).ended (note at (suc k) i).ended (ages T k i g).ended h s })
    | inr h ↦
        let r = came_to_rest T k i g h in
        let low : r.0 < k = r.1.by in
        (r.0, record { by = omega (arith, low); begun = r.1.begun; sounded = r.1.sounded; silent = r.1.silent; ended = end_stays (tick (suc k)) (tick (suc r.0)) (note at k i).ended (note at (suc k) i).ended (ages T k i g).ended r.1.ended })
  ]
]

-- an end stays
pub stays_ended : {at : ℕ → List Note} {tick : ℕ → ℕ} {reset : ℕ → Bool} {begun : ℕ → List Note} → Timeline at tick reset begun → (u i j k : ℕ) → j ≤ k → i < count at j → (note at j i).ended ≡ Some u → (note at k i).ended ≡ Some u
stays_ended {at} T u i j zero l b h = let e : j ≡ 0 = omega (arith, l) in subst (λ m. (note at m i).ended ≡ Some u) e h
stays_ended {at} {tick} T u i j (suc k) l b h = elim (cases_lt k j) [
  | inl g ↦ let e : j ≡ suc k = omega (arith, l, g) in subst (λ m. (note at m i).ended ≡ Some u) e h
  | inr g ↦
      let c : count at j ≤ count at k = count_le T j k g in
      end_stays (tick (suc k)) u (note at k i).ended (note at (suc k) i).ended (ages T k i (omega (arith, c, b))).ended (stays_ended T u i j k g b h)
]

pub ends_there : {at : ℕ → List Note} {tick : ℕ → ℕ} {reset : ℕ → Bool} {begun : ℕ → List Note} → Timeline at tick reset begun → (i j : ℕ) → i < count at j → sounds (note at j i) ≡ true → sounds (note at (suc j) i) ≡ false
    → (note at (suc j) i).ended ≡ Some (tick (suc j))
ends_there {at} {tick} T i j b h s = ends_now (tick (suc j)) (note at j i).ended (note at (suc j) i).ended (ages T j i b).ended h s

-- the last reset is not before any
last_reset_ge : (reset : ℕ → Bool) (l k : ℕ) → reset (suc l) ≡ true → suc l ≤ k → suc l ≤ last_reset reset k
last_reset_ge reset l zero r h = absurd (omega (arith, h))
last_reset_ge reset l (suc k) r h = elim (cases_Bool (reset (suc k))) [
  | inl e ↦ rw e h
  | inr e ↦ elim (cases_lt k (suc l)) [
    | inl g ↦ absurd (let same : suc k ≡ suc l = omega (arith, g, h) in both_ways (reset (suc k)) e (ap reset same ∙ r))
    | inr g ↦ rw e (last_reset_ge reset l k r g)
  ]
]

pub none_since : {at : ℕ → List Note} {tick : ℕ → ℕ} {reset : ℕ → Bool} {begun : ℕ → List Note} → Timeline at tick reset begun → (k i l : ℕ) → past at reset k ≤ i → i < count at (suc l) → suc l ≤ k → reset (suc l) ≡ false
none_since {at} {tick} {reset} T k i l p b h = false_from_ne_true (reset (suc l)) (λ r.
    let g : suc l ≤ last_reset reset k = last_reset_ge reset l k r h in
    let c : count at (suc l) ≤ past at reset k = count_le T (suc l) (last_reset reset k) g in
    omega (arith, p, b, c))

pub past_same : (at : ℕ → List Note) (reset : ℕ → Bool) (j k : ℕ) → j ≤ k → ((l : ℕ) → j ≤ l → l < k → reset (suc l) ≡ false) → past at reset k ≡ past at reset j
past_same at reset j zero l h = let e : 0 ≡ j = omega (arith, l) in ap (past at reset) e
past_same at reset j (suc k) l h = elim (cases_lt k j) [
  | inl g ↦ let e : suc k ≡ j = omega (arith, l, g) in ap (past at reset) e
  | inr g ↦ past_kept at reset k (h k g (omega arith)) ∙ past_same at reset j k g (λ m a b. h m a (omega (arith, b)))
]
