-- A pair holds where a note of it sounds or its last end is less than a tail ago; and what an event does to last ends.
use Rattle.std.proofs.Common.{◌≡◌, ◌≤◌, ◌<◌, ◌+◌, ◌-◌, ℕ, zero, suc, List, [], ◌∷◌, Bool, true, false, cond, not, ◌&&◌, ◌||◌, Option, Some, None, refl, ap, sym, ◌∙◌, subst, length, get_or, drop, arith, inl, inr, max}
use Rattle.std.specs.Prelude.{is_some, ◌⊎◌}
use Rattle.std.specs.List.{AllByRecursion}
use Rattle.std.specs.Set.{is_member}
use Rattle.std.proofs.Math.Seq.{drop-length}
use Rattle.std.proofs.lemmas.List.{get_or-drop, length-drop}
use Rattle.std.proofs.lemmas.Bool.{cases_lt, cases_Bool, or_cases, or_left, or_right, cond-true, ltb-true, lt-ltb}
use Rattle.retune_model.specs.Pairs.{Pair, is_same_pair}
use Rattle.midi_model.specs.Notes.{Note, sounds}
use Rattle.retune_model.specs.Options.{restless, Options}
use Rattle.retune_model.specs.Faults.{Targets}
use Rattle.retune_model.specs.Ports.{PortEvents, is_reset_at}
use Rattle.midi_model.specs.MusicLaws.{EndsBy, Grows}
use Rattle.retune_model.specs.Rests.{notes_at, nobody, past_at, lasts, is_within_tail, pairs_at, pair_of, AreAimed}
use Rattle.retune_model.specs.LastEnds.{later_end, latest_end, last_end, has_ended}
use Rattle.retune_model.proofs.Timeline.{AtMostOne, EndedBy, lasting, note, past_le, past_kept, past_reset, ended_by, lasts_without_tail, sounding_lasts}
use Rattle.retune_model.proofs.Moments.{Timely, begun_to, timeline}
use Rattle.retune_model.proofs.SamePairs.{same_pair}
use Rattle.retune_model.proofs.Ordered.{Has, itself}
use Rattle.retune_model.proofs.Resting.{holder, has_at, pair_ages, ended_all, all_dropped}

-- ---- of a list of notes
later_reached : (a b : Option ℕ) (m : ℕ) → later_end a b ≡ Some m → (a ≡ Some m) ⊎ (b ≡ Some m)
later_reached None b m h = inr h
later_reached (Some x) None m h = inl h
later_reached (Some x) (Some y) m h = elim (cases_lt x y) [
  | inl l ↦ inr (ap (λ z. Some z) (let e : max x y ≡ y = omega (arith, l) in sym e) ∙ h)
  | inr l ↦ inl (ap (λ z. Some z) (let e : max x y ≡ x = omega (arith, l) in sym e) ∙ h)
]

reached : (z : ℕ) (o : Options) (table : Targets) (p : Pair) (ns : List Note) (m : ℕ) → latest_end z o table p ns ≡ Some m
    → (i : ℕ) × (i < length ns) × (pair_of z o table (get_or ns i nobody) ≡ p) × ((get_or ns i nobody).ended ≡ Some m)
reached z o table p [] m h = absurd cc
reached z o table p (n ∷ ns) m h = pick (is_same_pair (pair_of z o table n) p) refl h (λ r.
    let x = reached z o table p ns m r in
    let l : x.0 < length ns = x.1 in
    (suc x.0, omega (arith, l), x.2, x.3))
  where
    pick : (b : Bool) → is_same_pair (pair_of z o table n) p ≡ b → cond b (later_end n.ended (latest_end z o table p ns)) (latest_end z o table p ns) ≡ Some m
        → (latest_end z o table p ns ≡ Some m → (i : ℕ) × (i < length (n ∷ ns)) × (pair_of z o table (get_or (n ∷ ns) i nobody) ≡ p) × ((get_or (n ∷ ns) i nobody).ended ≡ Some m))
        → (i : ℕ) × (i < length (n ∷ ns)) × (pair_of z o table (get_or (n ∷ ns) i nobody) ≡ p) × ((get_or (n ∷ ns) i nobody).ended ≡ Some m)
    pick false e g later = later g
    pick true e g later = elim (later_reached n.ended (latest_end z o table p ns) m g) [
      | inl f ↦ (0, omega arith, same_pair (pair_of z o table n) p e, f)
      | inr f ↦ later f
    ]

later_left : (a b : Option ℕ) (e : ℕ) → a ≡ Some e → (m : ℕ) × (later_end a b ≡ Some m) × (e ≤ m)
later_left None b e h = absurd cc
later_left (Some x) None e h = (x, refl, (let s : x ≡ e = cc in omega (arith, s)))
later_left (Some x) (Some y) e h = (max x y, refl, (let s : x ≡ e = cc in omega (arith, s)))

later_right : (a b : Option ℕ) (n : ℕ) → b ≡ Some n → (m : ℕ) × (later_end a b ≡ Some m) × (n ≤ m)
later_right None b n h = (n, h, omega arith)
later_right (Some x) None n h = absurd cc
later_right (Some x) (Some y) n h = (max x y, refl, (let s : y ≡ n = cc in omega (arith, s)))

at_least : (z : ℕ) (o : Options) (table : Targets) (p : Pair) (ns : List Note) (i e : ℕ) → i < length ns → pair_of z o table (get_or ns i nobody) ≡ p → (get_or ns i nobody).ended ≡ Some e
    → (m : ℕ) × (latest_end z o table p ns ≡ Some m) × (e ≤ m)
at_least z o table p [] i e l s h = absurd (omega (arith, l))
at_least z o table p (n ∷ ns) zero e l s h =
    let x = later_left n.ended (latest_end z o table p ns) e h in
    let same : is_same_pair (pair_of z o table n) p ≡ true = ap (is_same_pair (pair_of z o table n)) (sym s) ∙ itself (pair_of z o table n) in
    (x.0, cond-true (is_same_pair (pair_of z o table n) p) (later_end n.ended (latest_end z o table p ns)) (latest_end z o table p ns) same ∙ x.1, x.2)
at_least z o table p (n ∷ ns) (suc i) e l s h = pick (is_same_pair (pair_of z o table n) p) (at_least z o table p ns i e (omega (arith, l)) s h)
  where
    pick : (b : Bool) → (m : ℕ) × (latest_end z o table p ns ≡ Some m) × (e ≤ m) → (m : ℕ) × (cond b (later_end n.ended (latest_end z o table p ns)) (latest_end z o table p ns) ≡ Some m) × (e ≤ m)
    pick false x = x
    pick true x =
        let y = later_right n.ended (latest_end z o table p ns) x.0 x.1 in
        let a : e ≤ x.0 = x.2 in
        let b : x.0 ≤ y.0 = y.2 in
        (y.0, y.1, omega (arith, a, b))

-- ---- a pair holds
within_later : (tail t : ℕ) (x : Option ℕ) (e m : ℕ) → x ≡ Some m → e ≤ m → t < e + tail → is_within_tail tail t x ≡ true
within_later tail t x e m h l g = ap (is_within_tail tail t) h ∙ lt-ltb t (m + tail) (omega (arith, l, g))

within_some : (tail t : ℕ) (x : Option ℕ) → is_within_tail tail t x ≡ true → (m : ℕ) × (x ≡ Some m) × (t < m + tail)
within_some tail t None h = absurd cc
within_some tail t (Some m) h = (m, refl, ltb-true t (m + tail) h)

lasts_some : (tail t m : ℕ) (n : Note) → n.ended ≡ Some m → t < m + tail → lasts tail t n ≡ true
lasts_some tail t m n h g = ap (lasting tail t) h ∙ lt-ltb t (m + tail) g

silent_ended : (tail t : ℕ) (x : Option ℕ) → not (is_some x) ≡ false → lasting tail t x ≡ true → (e : ℕ) × (x ≡ Some e) × (t < e + tail)
silent_ended tail t None s h = absurd cc
silent_ended tail t (Some e) s h = (e, refl, ltb-true t (e + tail) h)

pub holds_by_last_end : (o : Options) (part : ℕ → Bool) (table : Targets) (port : PortEvents) → Timely port → AreAimed o part table port.events → (k : ℕ) (p : Pair)
    → is_member is_same_pair (pairs_at o part table port k) p ≡ (is_member is_same_pair (pairs_at (restless o) part table port k) p || is_within_tail o.tail (port.tick k) (last_end o part table port k p))
holds_by_last_end o part table port timed aimed k p = both _ _ there back
  where
    both : (a b : Bool) → (a ≡ true → b ≡ true) → (b ≡ true → a ≡ true) → a ≡ b
    both true b f g = sym (f refl)
    both false true f g = g refl
    both false false f g = refl

    rest : List Note
    rest = drop (past_at part port.events k) (notes_at part port.events k)

    there : is_member is_same_pair (pairs_at o part table port k) p ≡ true → (is_member is_same_pair (pairs_at (restless o) part table port k) p || is_within_tail o.tail (port.tick k) (last_end o part table port k p)) ≡ true
    there m =
        let x = holder o part table port k p m in
        let n : Note = note (notes_at part port.events) k x.0 in
        elim (cases_Bool (sounds n)) [
          | inl s ↦ or_left (is_member is_same_pair (pairs_at (restless o) part table port k) p) (is_within_tail o.tail (port.tick k) (last_end o part table port k p))
              (subst (λ (q : Pair). Has (pairs_at (restless o) part table port k) q) x.1.pair (has_at (restless o) part table port timed aimed k x.0 (record { later = x.1.holds.later; begun = x.1.holds.begun; lasts = sounding_lasts 0 (port.tick k) n s })))
          | inr s ↦
              let c : ℕ = past_at part port.events k in
              let l : c ≤ x.0 = x.1.holds.later in
              let b : x.0 < length (notes_at part port.events k) = x.1.holds.begun in
              let j : ℕ = x.0 - c in
              let w : length (drop c (notes_at part port.events k)) ≡ length (notes_at part port.events k) - c = length-drop c (notes_at part port.events k) in
              let at : get_or (drop c (notes_at part port.events k)) j nobody ≡ n = get_or-drop c (notes_at part port.events k) j nobody ∙ ap (λ i. get_or (notes_at part port.events k) i nobody) (let e : c + j ≡ x.0 = omega (arith, l) in e) in
              let e = silent_ended o.tail (port.tick k) n.ended s x.1.holds.lasts in
              let y = at_least port.number o table p (drop c (notes_at part port.events k)) j e.0 (omega (arith, w, l, b)) (ap (pair_of port.number o table) at ∙ x.1.pair) (ap (λ (z : Note). z.ended) at ∙ e.1) in
              or_right (is_member is_same_pair (pairs_at (restless o) part table port k) p) (is_within_tail o.tail (port.tick k) (last_end o part table port k p))
              (within_later o.tail (port.tick k) (last_end o part table port k p) e.0 y.0 y.1 y.2 e.2)
        ]

    back : (is_member is_same_pair (pairs_at (restless o) part table port k) p || is_within_tail o.tail (port.tick k) (last_end o part table port k p)) ≡ true → is_member is_same_pair (pairs_at o part table port k) p ≡ true
    back m = elim (or_cases (is_member is_same_pair (pairs_at (restless o) part table port k) p) (is_within_tail o.tail (port.tick k) (last_end o part table port k p)) m) [
      | inl g ↦
          let x = holder (restless o) part table port k p g in
          let n : Note = note (notes_at part port.events) k x.0 in
          let s : sounds n ≡ true = sym (lasts_without_tail (port.tick k) n (ended_by (timeline part port timed) k x.0 x.1.holds.begun)) ∙ x.1.holds.lasts in
          subst (λ (q : Pair). Has (pairs_at o part table port k) q) x.1.pair (has_at o part table port timed aimed k x.0 (record { later = x.1.holds.later; begun = x.1.holds.begun; lasts = sounding_lasts o.tail (port.tick k) n s }))
      | inr g ↦
          let c : ℕ = past_at part port.events k in
          let w = within_some o.tail (port.tick k) (last_end o part table port k p) g in
          let x = reached port.number o table p (drop c (notes_at part port.events k)) w.0 w.1 in
          let l : x.0 < length (drop c (notes_at part port.events k)) = x.1 in
          let e : length (drop c (notes_at part port.events k)) ≡ length (notes_at part port.events k) - c = length-drop c (notes_at part port.events k) in
          let at : get_or (drop c (notes_at part port.events k)) x.0 nobody ≡ note (notes_at part port.events) k (c + x.0) = get_or-drop c (notes_at part port.events k) x.0 nobody in
          subst (λ (q : Pair). Has (pairs_at o part table port k) q) (ap (pair_of port.number o table) (sym at) ∙ x.2)
          (has_at o part table port timed aimed k (c + x.0) (record { later = omega arith; begun = omega (arith, l, e); lasts = lasts_some o.tail (port.tick k) w.0 (note (notes_at part port.events) k (c + x.0)) (ap (λ (z : Note). z.ended) (sym at) ∙ x.3) w.2 }))
    ]

-- ---- what an event does
later_by : (t : ℕ) (a b : Option ℕ) → EndedBy t a → EndedBy t b → EndedBy t (later_end a b)
later_by t None b h k = k
later_by t (Some x) None h k = h
later_by t (Some x) (Some y) h k = omega (arith, h, k)

latest_by : (z : ℕ) (o : Options) (table : Targets) (p : Pair) (t : ℕ) (ns : List Note) → AllByRecursion (λ n. EndedBy t n.ended) ns → EndedBy t (latest_end z o table p ns)
latest_by z o table p t [] h = tt
latest_by z o table p t (n ∷ ns) h = pick (is_same_pair (pair_of z o table n) p) (latest_by z o table p t ns h.1)
  where
    pick : (b : Bool) → EndedBy t (latest_end z o table p ns) → EndedBy t (cond b (later_end n.ended (latest_end z o table p ns)) (latest_end z o table p ns))
    pick true r = later_by t n.ended (latest_end z o table p ns) h.0 r
    pick false r = r

latest_of_new : (z : ℕ) (o : Options) (table : Targets) (p : Pair) (b : List Note) → AtMostOne b → latest_end z o table p b ≡ None
latest_of_new z o table p [] h = refl
latest_of_new z o table p (n ∷ []) h = pick (is_same_pair (pair_of z o table n) p)
  where
    pick : (b : Bool) → cond b (later_end n.ended None) None ≡ None
    pick true = ap (λ e. later_end e None) h
    pick false = refl
latest_of_new z o table p (n ∷ m ∷ b) h = absurd h

end_step : (t : ℕ) (a b y : Option ℕ) (w : Bool) (z : Option ℕ) → EndsBy t a b → EndedBy t a → EndedBy t y → z ≡ cond w (Some t) y
    → later_end b z ≡ cond ((not (is_some a) && not (not (is_some b))) || w) (Some t) (later_end a y)
end_step t None None y w z h k l e = e
end_step t None (Some b) None true z h k l e = ap (later_end (Some b)) e ∙ ap (λ x. Some x) (let m : max b t ≡ t = omega (arith, h) in m)
end_step t None (Some b) None false z h k l e = ap (later_end (Some b)) e ∙ ap (λ x. Some x) h
end_step t None (Some b) (Some y) true z h k l e = ap (later_end (Some b)) e ∙ ap (λ x. Some x) (let m : max b t ≡ t = omega (arith, h) in m)
end_step t None (Some b) (Some y) false z h k l e = ap (later_end (Some b)) e ∙ ap (λ x. Some x) (let m : max b y ≡ t = omega (arith, h, l) in m)
end_step t (Some a) b y true z h k l e = ap (λ x. later_end x z) h ∙ ap (later_end (Some a)) e ∙ ap (λ x. Some x) (let m : max a t ≡ t = omega (arith, k) in m)
end_step t (Some a) b y false z h k l e = ap (λ x. later_end x z) h ∙ ap (later_end (Some a)) e

latest_grown : (z : ℕ) (o : Options) (table : Targets) (p : Pair) (s t : ℕ) (b ns xs : List Note) → s ≤ t → AtMostOne b → AllByRecursion (λ n. EndedBy s n.ended) ns → Grows t b ns xs
    → latest_end z o table p xs ≡ cond (has_ended z o table p ns xs) (Some t) (latest_end z o table p ns)
latest_grown z o table p s t b [] xs l one h g = ap (latest_end z o table p) g ∙ latest_of_new z o table p b one
latest_grown z o table p s t b (n ∷ ns) [] l one h g = absurd g
latest_grown z o table p s t b (n ∷ ns) (x ∷ xs) l one h g = pick (is_same_pair (pair_of z o table n) p) (is_same_pair (pair_of z o table x) p) (ap (λ q. is_same_pair q p) (pair_ages z o table t n x g.0)) (latest_grown z o table p s t b ns xs l one h.1 g.1)
  where
    raise : (e : Option ℕ) → EndedBy s e → EndedBy t e
    raise None k = tt
    raise (Some e) k = omega (arith, k, l)

    pick : (a c : Bool) → c ≡ a → latest_end z o table p xs ≡ cond (has_ended z o table p ns xs) (Some t) (latest_end z o table p ns)
        → cond c (later_end x.ended (latest_end z o table p xs)) (latest_end z o table p xs) ≡ cond ((a && (sounds n && not (sounds x))) || has_ended z o table p ns xs) (Some t) (cond a (later_end n.ended (latest_end z o table p ns)) (latest_end z o table p ns))
    pick true true e r = end_step t n.ended x.ended (latest_end z o table p ns) (has_ended z o table p ns xs) (latest_end z o table p xs) g.0.ended (raise n.ended h.0) (raise (latest_end z o table p ns) (latest_by z o table p s ns h.1)) r
    pick false false e r = r
    pick true false e r = absurd cc
    pick false true e r = absurd cc

grown_behind : (t : ℕ) (b : List Note) (c : ℕ) (ns xs : List Note) → c ≤ length ns → Grows t b ns xs → Grows t b (drop c ns) (drop c xs)
grown_behind t b zero ns xs l g = g
grown_behind t b (suc c) [] xs l g = absurd (omega (arith, l))
grown_behind t b (suc c) (n ∷ ns) [] l g = absurd g
grown_behind t b (suc c) (n ∷ ns) (x ∷ xs) l g = grown_behind t b c ns xs (omega (arith, l)) g.1

pub last_end_reset : (o : Options) (part : ℕ → Bool) (table : Targets) (port : PortEvents) (k : ℕ) (p : Pair) → is_reset_at port.events (suc k) ≡ true → last_end o part table port (suc k) p ≡ None
last_end_reset o part table port k p r =
    ap (λ c. latest_end port.number o table p (drop c (notes_at part port.events (suc k)))) (past_reset (notes_at part port.events) (is_reset_at port.events) k r) ∙ ap (latest_end port.number o table p) (drop-length (notes_at part port.events (suc k)))

pub last_end_next : (o : Options) (part : ℕ → Bool) (table : Targets) (port : PortEvents) → Timely port → (k : ℕ) (p : Pair) → is_reset_at port.events (suc k) ≡ false
    → last_end o part table port (suc k) p ≡ cond (has_ended port.number o table p (drop (past_at part port.events k) (notes_at part port.events k)) (drop (past_at part port.events k) (notes_at part port.events (suc k)))) (Some (port.tick (suc k))) (last_end o part table port k p)
last_end_next o part table port timed k p r =
    let T = timeline part port timed in
    let c : ℕ = past_at part port.events k in
    ap (λ d. latest_end port.number o table p (drop d (notes_at part port.events (suc k)))) (past_kept (notes_at part port.events) (is_reset_at port.events) k r)
    ∙ latest_grown port.number o table p (port.tick k) (port.tick (suc k)) (begun_to part port.events (suc k)) (drop c (notes_at part port.events k)) (drop c (notes_at part port.events (suc k))) (T.order k) (T.one k)
    (all_dropped (λ n. EndedBy (port.tick k) n.ended) c (notes_at part port.events k) (ended_all part port timed k))
    (grown_behind (port.tick (suc k)) (begun_to part port.events (suc k)) c (notes_at part port.events k) (notes_at part port.events (suc k)) (past_le T k) (T.grows k))
