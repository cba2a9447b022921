-- The pairs of the notes that hold, and those whose runs hold a channel, over the events of one port.
use Rattle.std.proofs.Common.{◌≡◌, ◌≤◌, ◌<◌, ◌+◌, ℕ, zero, suc, List, [], ◌∷◌, Bool, true, false, cond, not, ◌&&◌, Option, refl, ap, sym, ◌∙◌, subst, length, get_or, drop, arith, inl, inr}
use Rattle.std.specs.Prelude.{is_some, ◌⊎◌}
use Rattle.std.specs.List.{AllByRecursion, filter}
use Rattle.std.specs.Set.{is_member}
use Rattle.std.proofs.lemmas.Bool.{cases_lt, both_ways, and_parts, and_from, not-true, cond-true, cond-false}
use Rattle.retune_model.specs.Pairs.{Pair, is_same_pair, pairs_of, sounding}
use Rattle.midi_model.specs.Notes.{Note, sounds}
use Rattle.retune_model.specs.Table.{BendTarget}
use Rattle.retune_model.specs.Options.{restless, Options}
use Rattle.retune_model.specs.PlaysTheSame.{bend_target_if}
use Rattle.retune_model.specs.Faults.{Targets, is_part, target_of}
use Rattle.retune_model.specs.Ports.{PortEvents, music_at, is_reset_at}
use Rattle.retune_model.specs.Need.{ArePairs}
use Rattle.retune_model.specs.Runs.{begins, OneBegins, HoldUnbroken}
use Rattle.midi_model.specs.MusicLaws.{Ages}
use Rattle.retune_model.specs.Rests.{notes_at, nobody, past_at, lasts, holding, pairs_at, held_at, begun_at, holds_at, pair_of, pair_at, steps_of, began_at, AreAimed}
use Rattle.retune_model.proofs.Timeline.{Timeline, AtMostOne, length_grown, count, note, count_le, ages, new, Holds, holds_parts, holds_from, new_holds, held_before, sounding_holds, silent_past, EndedBy, ended_by, lasts_without_tail, sounding_lasts, first_with_below}
use Rattle.retune_model.proofs.Moments.{Timely, HasTarget, begun_to, timeline, pairs_begun_at, aimed_at}
use Rattle.retune_model.proofs.Lists.{filter_twice}
use Rattle.retune_model.proofs.Ordered.{pairs_ordered, ordered_distinct, Has, if_has, if_back, found_behind, placed_behind}

-- ---- the pair of a note stays
named : ℕ → ℕ → Option BendTarget → Pair
named z c t = record { part = record { port = z; channel = c }; steps = steps_of t }

target_ages : (o : Options) (table : Targets) (t : ℕ) (n x : Note) → Ages t n x → target_of o table x ≡ target_of o table n
target_ages o table t n x a = ap (λ k. bend_target_if o.range (table k x.onset)) a.key ∙ ap (λ u. bend_target_if o.range (table n.key u)) a.onset

pub pair_ages : (z : ℕ) (o : Options) (table : Targets) (t : ℕ) (n x : Note) → Ages t n x → pair_of z o table x ≡ pair_of z o table n
unfolding named
pair_ages z o table t n x a = ap (λ c. named z c (target_of o table x)) a.channel ∙ ap (named z n.channel) (target_ages o table t n x a)

pub pair_kept : {at : ℕ → List Note} {tick : ℕ → ℕ} {reset : ℕ → Bool} {begun : ℕ → List Note} (z : ℕ) (o : Options) (table : Targets) → Timeline at tick reset begun → (j k i : ℕ) → j ≤ k → i < count at j
    → pair_of z o table (note at k i) ≡ pair_of z o table (note at j i)
pair_kept {at} z o table T j zero i l h = let e : j ≡ 0 = omega (arith, l) in ap (λ m. pair_of z o table (note at m i)) (sym e)
pair_kept {at} {tick} z o table T j (suc k) i l h = elim (cases_lt k j) [
  | inl g ↦ let e : suc k ≡ j = omega (arith, l, g) in ap (λ m. pair_of z o table (note at m i)) e
  | inr g ↦
      let c : count at j ≤ count at k = count_le T j k g in
      pair_ages z o table (tick (suc k)) (note at k i) (note at (suc k) i) (ages T k i (omega (arith, c, h))) ∙ pair_kept z o table T j k i g h
]

pub has_target : {at : ℕ → List Note} {tick : ℕ → ℕ} {reset : ℕ → Bool} {begun : ℕ → List Note} (o : Options) (table : Targets) → Timeline at tick reset begun
    → ((k : ℕ) → AllByRecursion (HasTarget o table) (begun (suc k))) → (k i : ℕ) → i < count at k → HasTarget o table (note at k i)
has_target {at} o table T aimed zero i l = absurd (let e : count at 0 ≡ 0 = ap length T.none in omega (arith, l, e))
has_target {at} {tick} {reset} {begun} o table T aimed (suc k) i l = elim (cases_lt i (count at k)) [
  | inl g ↦ ap (λ t. is_some t) (target_ages o table (tick (suc k)) (note at k i) (note at (suc k) i) (ages T k i g)) ∙ has_target o table T aimed k i g
  | inr g ↦ (subst (λ (ns : List Note). AllByRecursion (HasTarget o table) ns) (new T k i g l).alone (aimed k)).0
]

-- ---- the pairs are those of the notes that hold
pub has_at : (o : Options) (part : ℕ → Bool) (table : Targets) (port : PortEvents) → Timely port → AreAimed o part table port.events → (k i : ℕ) → Holds (notes_at part port.events) (is_reset_at port.events) port.tick o.tail k i
    → Has (pairs_at o part table port k) (pair_of port.number o table (note (notes_at part port.events) k i))
has_at o part table port timed aimed k i h =
    placed_behind port.number o table (lasts o.tail (port.tick k)) (past_at part port.events k) (notes_at part port.events k) i h.later h.begun h.lasts (has_target o table (timeline part port timed) (aimed_at o part table port.events aimed) k i h.begun)

pub record Holder (o : Options) (part : ℕ → Bool) (table : Targets) (port : PortEvents) (k : ℕ) (p : Pair) (i : ℕ) : Type 0 where
  pub holds : Holds (notes_at part port.events) (is_reset_at port.events) port.tick o.tail k i
  pub pair : pair_of port.number o table (note (notes_at part port.events) k i) ≡ p

pub holder : (o : Options) (part : ℕ → Bool) (table : Targets) (port : PortEvents) (k : ℕ) (p : Pair) → Has (pairs_at o part table port k) p → (i : ℕ) × Holder o part table port k p i
holder o part table port k p m =
    let x = found_behind port.number o table (lasts o.tail (port.tick k)) (past_at part port.events k) (notes_at part port.events k) p m in
    (x.0, record { holds = record { later = x.1.later; begun = x.1.there; lasts = x.1.passes }; pair = x.1.pair })

pub are_pairs : (o : Options) (part : ℕ → Bool) (table : Targets) (port : PortEvents) (last : ℕ) → Timely port → AreAimed o part table port.events
    → ArePairs is_same_pair (holds_at part o.tail port) (pair_at o part table port last) (length (notes_at part port.events last)) (pairs_at o part table port) last
are_pairs o part table port last timed aimed =
    let T = timeline part port timed in
    record {
      once = λ k low. ordered_distinct (pairs_at o part table port k) (pairs_ordered port.number o table (holding part o.tail port k));
      each = λ k p low m.
          let x = holder o part table port k p m in
          let l : x.0 < length (notes_at part port.events k) = x.1.holds.begun in
          let c : length (notes_at part port.events k) ≤ length (notes_at part port.events last) = count_le T k last low in
          (x.0, omega (arith, l, c), holds_from (notes_at part port.events) (is_reset_at port.events) port.tick o.tail k x.0 x.1.holds, pair_kept port.number o table T k last x.0 low l ∙ x.1.pair);
      all = λ k i low l h.
          let p = holds_parts (notes_at part port.events) (is_reset_at port.events) port.tick o.tail k i h in
          subst (λ (q : Pair). Has (pairs_at o part table port k) q) (sym (pair_kept port.number o table T k last i low p.begun)) (has_at o part table port timed aimed k i p);
    }

-- ---- at most one run begins at a position
newest : (o : Options) (part : ℕ → Bool) (table : Targets) (port : PortEvents) → Timely port → AreAimed o part table port.events → (k : ℕ) (p : Pair) → begins is_same_pair (pairs_at o part table port) k p ≡ true
    → pair_of port.number o table (note (notes_at part port.events) (suc k) (count (notes_at part port.events) k)) ≡ p
newest o part table port timed aimed k p b =
    let T = timeline part port timed in
    let two = and_parts (is_member is_same_pair (pairs_at o part table port (suc k)) p) (not (is_member is_same_pair (pairs_at o part table port k) p)) b in
    let gone : is_member is_same_pair (pairs_at o part table port k) p ≡ false = not-true (is_member is_same_pair (pairs_at o part table port k) p) two.1 in
    let x = holder o part table port (suc k) p two.0 in
    elim (cases_lt x.0 (count (notes_at part port.events) k)) [
      | inl g ↦ absurd (both_ways (is_member is_same_pair (pairs_at o part table port k) p) gone
          (subst (λ (q : Pair). Has (pairs_at o part table port k) q) (sym (pair_kept port.number o table T k (suc k) x.0 (omega arith) g) ∙ x.1.pair)
          (has_at o part table port timed aimed k x.0 (held_before T o.tail k x.0 g x.1.holds).0)))
      | inr g ↦ ap (λ i. pair_of port.number o table (note (notes_at part port.events) (suc k) i)) (sym (new T k x.0 g x.1.holds.begun).last) ∙ x.1.pair
    ]

pub one_begins : (o : Options) (part : ℕ → Bool) (table : Targets) (port : PortEvents) (last : ℕ) → Timely port → AreAimed o part table port.events → OneBegins is_same_pair (pairs_at o part table port) last
one_begins o part table port last timed aimed = record {
  none = ap (λ xs. pairs_of port.number o table (filter (lasts o.tail (port.tick 0)) (drop (length xs) xs))) (timeline part port timed).none;
  one = λ k p q l b c. sym (newest o part table port timed aimed k p b) ∙ newest o part table port timed aimed k q c;
}

-- ---- each note holds without a gap
held_down : {at : ℕ → List Note} {tick : ℕ → ℕ} {reset : ℕ → Bool} {begun : ℕ → List Note} → Timeline at tick reset begun → (tail i j k : ℕ) → j ≤ k → i < count at j → Holds at reset tick tail k i → Holds at reset tick tail j i
held_down {at} {tick} {reset} T tail i j zero l b h = let e : 0 ≡ j = omega (arith, l) in subst (λ m. Holds at reset tick tail m i) e h
held_down {at} {tick} {reset} T tail i j (suc k) l b h = elim (cases_lt k j) [
  | inl g ↦ let e : suc k ≡ j = omega (arith, l, g) in subst (λ m. Holds at reset tick tail m i) e h
  | inr g ↦ let c : count at j ≤ count at k = count_le T j k g in held_down T tail i j k g b (held_before T tail k i (omega (arith, c, b)) h).0
]

pub hold_unbroken : (part : ℕ → Bool) (tail : ℕ) (port : PortEvents) (last : ℕ) → Timely port → HoldUnbroken (holds_at part tail port) (began_at part port.events last) (length (notes_at part port.events last)) last
hold_unbroken part tail port last timed =
    let at : ℕ → List Note = notes_at part port.events in
    let reset : ℕ → Bool = is_reset_at port.events in
    let T = timeline part port timed in
    record {
      some = λ i l.
          let f = first_with_below T i last l in
          let is : began_at part port.events last i ≡ suc f.0 = f.1 in
          let low : suc f.0 ≤ last = f.2 in
          (omega (arith, is, low), ap (λ k. holds_at part tail port k i) is ∙ holds_from at reset port.tick tail (suc f.0) i (new_holds T tail f.0 i f.3 f.4));
      not_before = λ k i l h.
          let f = first_with_below T i last l in
          let is : began_at part port.events last i ≡ suc f.0 = f.1 in
          let b : i < count at k = (holds_parts at reset port.tick tail k i h).begun in
          let a : count at f.0 ≤ i = f.3 in
          elim (cases_lt k (suc f.0)) [
            | inl g ↦ absurd (let c : count at k ≤ count at f.0 = count_le T k f.0 (omega (arith, g)) in omega (arith, a, b, c))
            | inr g ↦ omega (arith, is, g)
          ];
      no_gap = λ j k i l h from to.
          let f = first_with_below T i last l in
          let is : began_at part port.events last i ≡ suc f.0 = f.1 in
          let b : i < count at (suc f.0) = f.4 in
          let c : count at (suc f.0) ≤ count at j = count_le T (suc f.0) j (omega (arith, is, from)) in
          holds_from at reset port.tick tail j i (held_down T tail i j k to (omega (arith, b, c)) (holds_parts at reset port.tick tail k i h));
    }

-- ---- what is held at an event
pub held_is : (o : Options) (part : ℕ → Bool) (table : Targets) (port : PortEvents) (k : ℕ)
    → held_at o part table port (suc k) ≡ pairs_of port.number o table (filter (λ n. lasts o.tail (port.tick k) n && lasts o.tail (port.tick (suc k)) n) (drop (past_at part port.events k) (notes_at part port.events k)))
held_is o part table port k = ap (pairs_of port.number o table) (filter_twice (lasts o.tail (port.tick k)) (lasts o.tail (port.tick (suc k))) (drop (past_at part port.events k) (notes_at part port.events k)))

pub held_within : (o : Options) (part : ℕ → Bool) (table : Targets) (port : PortEvents) → Timely port → AreAimed o part table port.events → (k : ℕ) (p : Pair)
    → Has (held_at o part table port (suc k)) p → Has (pairs_at o part table port k) p
held_within o part table port timed aimed k p h =
    let x = found_behind port.number o table (λ n. lasts o.tail (port.tick k) n && lasts o.tail (port.tick (suc k)) n) (past_at part port.events k) (notes_at part port.events k) p (subst (λ (ps : List Pair). Has ps p) (held_is o part table port k) h) in
    let two = and_parts (lasts o.tail (port.tick k) (note (notes_at part port.events) k x.0)) (lasts o.tail (port.tick (suc k)) (note (notes_at part port.events) k x.0)) x.1.passes in
    subst (λ (q : Pair). Has (pairs_at o part table port k) q) x.1.pair (has_at o part table port timed aimed k x.0 (record { later = x.1.later; begun = x.1.there; lasts = two.0 }))

pub still_held : (o : Options) (part : ℕ → Bool) (table : Targets) (port : PortEvents) → Timely port → AreAimed o part table port.events → (k i : ℕ) → Holds (notes_at part port.events) (is_reset_at port.events) port.tick o.tail k i
    → lasts o.tail (port.tick (suc k)) (note (notes_at part port.events) k i) ≡ true → Has (held_at o part table port (suc k)) (pair_of port.number o table (note (notes_at part port.events) k i))
still_held o part table port timed aimed k i h g =
    subst (λ (ps : List Pair). Has ps (pair_of port.number o table (note (notes_at part port.events) k i))) (sym (held_is o part table port k))
    (placed_behind port.number o table (λ n. lasts o.tail (port.tick k) n && lasts o.tail (port.tick (suc k)) n) (past_at part port.events k) (notes_at part port.events k) i h.later h.begun
    (and_from (lasts o.tail (port.tick k) (note (notes_at part port.events) k i)) (lasts o.tail (port.tick (suc k)) (note (notes_at part port.events) k i)) h.lasts g) (has_target o table (timeline part port timed) (aimed_at o part table port.events aimed) k i h.begun))

pub sounding_held : (o : Options) (part : ℕ → Bool) (table : Targets) (port : PortEvents) → Timely port → AreAimed o part table port.events → (k i : ℕ) → i < length (notes_at part port.events k) → sounds (get_or (notes_at part port.events k) i nobody) ≡ true
    → Has (held_at o part table port (suc k)) (pair_of port.number o table (get_or (notes_at part port.events k) i nobody))
sounding_held o part table port timed aimed k i l h =
    still_held o part table port timed aimed k i (sounding_holds (timeline part port timed) o.tail k i l h) (sounding_lasts o.tail (port.tick (suc k)) (note (notes_at part port.events) k i) h)

pub pairs_next : (o : Options) (part : ℕ → Bool) (table : Targets) (port : PortEvents) → Timely port → AreAimed o part table port.events → (k : ℕ) (p : Pair)
    → Has (pairs_at o part table port (suc k)) p → Has (held_at o part table port (suc k)) p ⊎ Has (begun_at o part table port (suc k)) p
pairs_next o part table port timed aimed k p m =
    let T = timeline part port timed in
    let x = holder o part table port (suc k) p m in
    elim (cases_lt x.0 (count (notes_at part port.events) k)) [
      | inl g ↦
          let b = held_before T o.tail k x.0 g x.1.holds in
          inl (subst (λ (q : Pair). Has (held_at o part table port (suc k)) q) (sym (pair_kept port.number o table T k (suc k) x.0 (omega arith) g) ∙ x.1.pair) (still_held o part table port timed aimed k x.0 b.0 b.1))
      | inr g ↦
          let n : Note = note (notes_at part port.events) (suc k) x.0 in
          let alone : begun_to part port.events (suc k) ≡ n ∷ [] = (new T k x.0 g x.1.holds.begun).alone in
          inr (subst (λ (q : Pair). Has (begun_at o part table port (suc k)) q) x.1.pair
          (subst (λ (ps : List Pair). Has ps (pair_of port.number o table n)) (ap (pairs_of port.number o table) (sym alone) ∙ pairs_begun_at o part table port k)
          (if_has port.number o table n [] (has_target o table T (aimed_at o part table port.events aimed) (suc k) x.0 x.1.holds.begun))))
    ]

-- the pair that an event begins is there after it
pub begun_there : (o : Options) (part : ℕ → Bool) (table : Targets) (port : PortEvents) → Timely port → AreAimed o part table port.events → (k : ℕ) (p : Pair)
    → Has (begun_at o part table port (suc k)) p → Has (pairs_at o part table port (suc k)) p
begun_there o part table port timed aimed k p m =
    pick (begun_to part port.events (suc k)) refl (subst (λ (ps : List Pair). Has ps p) (sym (pairs_begun_at o part table port k)) m)
  where
    at : ℕ → List Note
    at = notes_at part port.events

    is_of : (b : Note) → Has (pairs_of port.number o table (b ∷ [])) p → pair_of port.number o table b ≡ p
    is_of b h = elim (if_back port.number o table b [] p h) [ inl same ↦ same.0 | inr none ↦ absurd cc ]

    pick : (bs : List Note) → begun_to part port.events (suc k) ≡ bs → Has (pairs_of port.number o table bs) p → Has (pairs_at o part table port (suc k)) p
    pick [] e h = absurd cc
    pick (b ∷ c ∷ bs) e h = absurd (subst AtMostOne e ((timeline part port timed).one k))
    pick (b ∷ []) e h =
        let T = timeline part port timed in
        let i : ℕ = count at k in
        let one : length (begun_to part port.events (suc k)) ≡ 1 = ap length e in
        let more : count at (suc k) ≡ count at k + length (begun_to part port.events (suc k)) = length_grown (port.tick (suc k)) (begun_to part port.events (suc k)) (at k) (at (suc k)) (T.grows k) in
        let there : i < count at (suc k) = omega (arith, one, more) in
        let alone : begun_to part port.events (suc k) ≡ note at (suc k) i ∷ [] = (new T k i (omega arith) there).alone in
        let same : note at (suc k) i ≡ b = ap (λ bs. get_or bs 0 nobody) (sym alone ∙ e) in
        subst (λ (q : Pair). Has (pairs_at o part table port (suc k)) q) (ap (pair_of port.number o table) same ∙ is_of b h)
        (has_at o part table port timed aimed (suc k) i (new_holds T o.tail k i (omega arith) there))

-- a pair is held at the event that leads to its position, or at the next
pub held_near : (o : Options) (part : ℕ → Bool) (table : Targets) (port : PortEvents) → Timely port → AreAimed o part table port.events → (k : ℕ) (p : Pair)
    → Has (pairs_at o part table port (suc k)) p → Has (held_at o part table port (suc k)) p ⊎ Has (held_at o part table port (suc (suc k))) p
held_near o part table port timed aimed k p m =
    let T = timeline part port timed in
    let x = holder o part table port (suc k) p m in
    elim (cases_lt x.0 (count (notes_at part port.events) k)) [
      | inl g ↦
          let b = held_before T o.tail k x.0 g x.1.holds in
          inl (subst (λ (q : Pair). Has (held_at o part table port (suc k)) q) (sym (pair_kept port.number o table T k (suc k) x.0 (omega arith) g) ∙ x.1.pair) (still_held o part table port timed aimed k x.0 b.0 b.1))
      | inr g ↦
          let n = new T k x.0 g x.1.holds.begun in
          inr (subst (λ (q : Pair). Has (held_at o part table port (suc (suc k))) q) x.1.pair (sounding_held o part table port timed aimed (suc k) x.0 x.1.holds.begun n.sounds))
    ]

-- ---- without a tail
all_from_places : (P : Note → Type 0) (xs : List Note) → ((i : ℕ) → i < length xs → P (get_or xs i nobody)) → AllByRecursion P xs
all_from_places P [] h = tt
all_from_places P (x ∷ xs) h = (h 0 (omega arith), all_from_places P xs (λ i l. h (suc i) (omega (arith, l))))

filter_same : (P : Note → Type 0) (f g : Note → Bool) → ((n : Note) → P n → f n ≡ g n) → (xs : List Note) → AllByRecursion P xs → filter f xs ≡ filter g xs
filter_same P f g h [] a = refl
filter_same P f g h (x ∷ xs) a = ap (λ b. cond b (x ∷ filter f xs) (filter f xs)) (h x a.0) ∙ ap (λ ys. cond (g x) (x ∷ ys) ys) (filter_same P f g h xs a.1)

pub all_dropped : (P : Note → Type 0) (c : ℕ) (xs : List Note) → AllByRecursion P xs → AllByRecursion P (drop c xs)
all_dropped P zero xs a = a
all_dropped P (suc c) [] a = tt
all_dropped P (suc c) (x ∷ xs) a = all_dropped P c xs a.1

drop_silent : (c : ℕ) (xs : List Note) → ((i : ℕ) → i < c → sounds (get_or xs i nobody) ≡ false) → filter sounds (drop c xs) ≡ filter sounds xs
drop_silent zero xs h = refl
drop_silent (suc c) [] h = refl
drop_silent (suc c) (x ∷ xs) h = drop_silent c xs (λ i l. h (suc i) (omega (arith, l))) ∙ sym (cond-false (sounds x) (x ∷ filter sounds xs) (filter sounds xs) (h 0 (omega arith)))

pub ended_all : (part : ℕ → Bool) (port : PortEvents) → Timely port → (k : ℕ) → AllByRecursion (λ n. EndedBy (port.tick k) n.ended) (notes_at part port.events k)
ended_all part port timed k = all_from_places (λ n. EndedBy (port.tick k) n.ended) (notes_at part port.events k) (λ i l. ended_by (timeline part port timed) k i l)

sounding_alone : (part : ℕ → Bool) (port : PortEvents) → Timely port → (k : ℕ) → holding part 0 port k ≡ filter sounds (drop (past_at part port.events k) (notes_at part port.events k))
sounding_alone part port timed k =
    filter_same (λ n. EndedBy (port.tick k) n.ended) (lasts 0 (port.tick k)) sounds (λ n h. lasts_without_tail (port.tick k) n h) (drop (past_at part port.events k) (notes_at part port.events k))
    (all_dropped (λ n. EndedBy (port.tick k) n.ended) (past_at part port.events k) (notes_at part port.events k) (ended_all part port timed k))

pub without_tail : (o : Options) (table : Targets) (port : PortEvents) → Timely port → (k : ℕ) → pairs_at (restless o) (is_part o) table port k ≡ pairs_of port.number o table (sounding o (music_at port.events k))
without_tail o table port timed k = ap (pairs_of port.number o table)
    (sounding_alone (is_part o) port timed k
    ∙ drop_silent (past_at (is_part o) port.events k) (notes_at (is_part o) port.events k) (λ i l. silent_past (timeline (is_part o) port timed) k i l)
    ∙ filter_twice (λ n. is_part o n.channel) sounds (music_at port.events k).notes)

sounding_stays : (t : ℕ) (xs : List Note) → filter (lasts 0 t) (filter sounds xs) ≡ filter sounds xs
sounding_stays t [] = refl
sounding_stays t (x ∷ xs) = pick (sounds x) refl (sounding_stays t xs)
  where
    pick : (b : Bool) → sounds x ≡ b → filter (lasts 0 t) (filter sounds xs) ≡ filter sounds xs → filter (lasts 0 t) (cond b (x ∷ filter sounds xs) (filter sounds xs)) ≡ cond b (x ∷ filter sounds xs) (filter sounds xs)
    pick true e r = cond-true (lasts 0 t x) (x ∷ filter (lasts 0 t) (filter sounds xs)) (filter (lasts 0 t) (filter sounds xs)) (sounding_lasts 0 t x e) ∙ ap (λ ys. x ∷ ys) r
    pick false e r = r

pub held_without_tail : (o : Options) (part : ℕ → Bool) (table : Targets) (port : PortEvents) → Timely port → (k : ℕ) → held_at (restless o) part table port (suc k) ≡ pairs_at (restless o) part table port k
held_without_tail o part table port timed k = ap (pairs_of port.number o table)
    (ap (filter (lasts 0 (port.tick (suc k)))) (sounding_alone part port timed k)
    ∙ sounding_stays (port.tick (suc k)) (drop (past_at part port.events k) (notes_at part port.events k))
    ∙ sym (sounding_alone part port timed k))
