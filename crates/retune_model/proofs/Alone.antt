-- The pairs of some parts alone are those of their notes alone; c says of which channels they are.
use Rattle.std.proofs.Common.{◌≡◌, ◌≤◌, ℕ, zero, suc, List, [], ◌∷◌, Bool, true, false, cond, ◌&&◌, Option, Some, None, refl, ap, sym, ◌∙◌, subst, length, drop, arith, inl, inr}
use Rattle.std.specs.List.{AllByRecursion, filter}
use Rattle.std.proofs.lemmas.Bool.{cases_lt, cond-true, cond-false}
use Rattle.retune_model.specs.Pairs.{Pair, is_same_pair, is_before, with_pair, pair_if, pairs_of}
use Rattle.midi_model.specs.Notes.{Note}
use Rattle.retune_model.specs.Table.{BendTarget}
use Rattle.retune_model.specs.Options.{Options}
use Rattle.retune_model.specs.Faults.{Targets, target_of}
use Rattle.retune_model.specs.Ports.{PortEvents, Numbered, music_at, is_reset_at}
use Rattle.midi_model.specs.MusicLaws.{Grows}
use Rattle.retune_model.specs.Rests.{notes_at, last_reset, past_at, lasts, holding, pairs_at}
use Rattle.retune_model.proofs.Timeline.{Timeline, last_reset_le}
use Rattle.retune_model.proofs.Moments.{Timely, timeline}
use Rattle.retune_model.proofs.SamePairs.{same_pair}
use Rattle.retune_model.proofs.Lists.{filter_twice}
use Rattle.retune_model.specs.PairOrder.{AreOrdered}
use Rattle.retune_model.proofs.Ordered.{all_then, before_then, pairs_ordered}

abbrev of_part : (ℕ → Bool) → Pair → Bool
of_part c p = c p.part.channel

abbrev on_channel : (ℕ → Bool) → Note → Bool
on_channel c n = c n.channel

-- ---- of pairs
with_first : (p : Pair) (ps : List Pair) → AllByRecursion (λ q. is_before p q ≡ true) ps → with_pair p ps ≡ p ∷ ps
with_first p [] h = refl
with_first p (q ∷ qs) h = cond-true (is_before p q) (p ∷ q ∷ qs) (cond (is_same_pair p q) (q ∷ qs) (q ∷ with_pair p qs)) h.0

all_filtered : {A : Type 0} (P : A → Type 0) (g : A → Bool) (xs : List A) → AllByRecursion P xs → AllByRecursion P (filter g xs)
all_filtered P g [] h = tt
all_filtered {A} P g (x ∷ xs) h = pick (g x) (all_filtered P g xs h.1)
  where
    pick : (b : Bool) → AllByRecursion P (filter g xs) → AllByRecursion P (cond b (x ∷ filter g xs) (filter g xs))
    pick true r = (h.0, r)
    pick false r = r

all_after : (p : Pair) (q : Pair) (qs : List Pair) → is_before p q ≡ true → AreOrdered (q ∷ qs) → AllByRecursion (λ x. is_before p x ≡ true) (q ∷ qs)
all_after p q qs h o = (h, all_then (λ x. is_before q x ≡ true) (λ x. is_before p x ≡ true) (λ x g. before_then p q x h g) qs o.0)

passes : (c : ℕ → Bool) (p : Pair) (ps : List Pair) → AreOrdered ps → of_part c p ≡ true → filter (of_part c) (with_pair p ps) ≡ with_pair p (filter (of_part c) ps)
passes c p [] o h = cond-true (of_part c p) (p ∷ []) [] h
passes c p (q ∷ qs) o h = pick (is_before p q) (is_same_pair p q) (of_part c q) refl refl refl (passes c p qs o.1 h)
  where
    rest : List Pair
    rest = filter (of_part c) qs

    pick : (a b d : Bool) → is_before p q ≡ a → is_same_pair p q ≡ b → of_part c q ≡ d → filter (of_part c) (with_pair p qs) ≡ with_pair p (filter (of_part c) qs)
        → filter (of_part c) (cond a (p ∷ q ∷ qs) (cond b (q ∷ qs) (q ∷ with_pair p qs))) ≡ with_pair p (cond d (q ∷ filter (of_part c) qs) (filter (of_part c) qs))
    pick true b d e f g r =
        cond-true (of_part c p) (p ∷ filter (of_part c) (q ∷ qs)) (filter (of_part c) (q ∷ qs)) h
        ∙ sym (with_first p (filter (of_part c) (q ∷ qs)) (all_filtered (λ x. is_before p x ≡ true) (of_part c) (q ∷ qs) (all_after p q qs e o)))
        ∙ ap (λ x. with_pair p (cond x (q ∷ filter (of_part c) qs) (filter (of_part c) qs))) g
    pick false true true e f g r = cond-true (of_part c q) (q ∷ filter (of_part c) qs) (filter (of_part c) qs) g
        ∙ sym (cond-false (is_before p q) (p ∷ q ∷ filter (of_part c) qs) (cond (is_same_pair p q) (q ∷ filter (of_part c) qs) (q ∷ with_pair p (filter (of_part c) qs))) e
        ∙ cond-true (is_same_pair p q) (q ∷ filter (of_part c) qs) (q ∷ with_pair p (filter (of_part c) qs)) f)
    pick false true false e f g r = absurd (let k : of_part c q ≡ true = ap (of_part c) (sym (same_pair p q f)) ∙ h in cc)
    pick false false true e f g r = cond-true (of_part c q) (q ∷ filter (of_part c) (with_pair p qs)) (filter (of_part c) (with_pair p qs)) g
        ∙ ap (λ xs. q ∷ xs) r
        ∙ sym (cond-false (is_before p q) (p ∷ q ∷ filter (of_part c) qs) (cond (is_same_pair p q) (q ∷ filter (of_part c) qs) (q ∷ with_pair p (filter (of_part c) qs))) e
        ∙ cond-false (is_same_pair p q) (q ∷ filter (of_part c) qs) (q ∷ with_pair p (filter (of_part c) qs)) f)
    pick false false false e f g r = cond-false (of_part c q) (q ∷ filter (of_part c) (with_pair p qs)) (filter (of_part c) (with_pair p qs)) g ∙ r

stops : (c : ℕ → Bool) (p : Pair) (ps : List Pair) → of_part c p ≡ false → filter (of_part c) (with_pair p ps) ≡ filter (of_part c) ps
stops c p [] h = cond-false (of_part c p) (p ∷ []) [] h
stops c p (q ∷ qs) h = pick (is_before p q) (is_same_pair p q) (stops c p qs h)
  where
    pick : (a b : Bool) → filter (of_part c) (with_pair p qs) ≡ filter (of_part c) qs → filter (of_part c) (cond a (p ∷ q ∷ qs) (cond b (q ∷ qs) (q ∷ with_pair p qs))) ≡ filter (of_part c) (q ∷ qs)
    pick true b r = cond-false (of_part c p) (p ∷ filter (of_part c) (q ∷ qs)) (filter (of_part c) (q ∷ qs)) h
    pick false true r = refl
    pick false false r = ap (λ xs. cond (of_part c q) (q ∷ xs) xs) r

pairs_alone : (z : ℕ) (o : Options) (table : Targets) (c : ℕ → Bool) (ns : List Note) → filter (of_part c) (pairs_of z o table ns) ≡ pairs_of z o table (filter (on_channel c) ns)
pairs_alone z o table c [] = refl
pairs_alone z o table c (n ∷ ns) = pick (target_of o table n) (on_channel c n) refl refl (pairs_alone z o table c ns)
  where
    pick : (t : Option BendTarget) (b : Bool) → target_of o table n ≡ t → on_channel c n ≡ b → filter (of_part c) (pairs_of z o table ns) ≡ pairs_of z o table (filter (on_channel c) ns)
        → filter (of_part c) (pair_if z n.channel t (pairs_of z o table ns)) ≡ pairs_of z o table (cond b (n ∷ filter (on_channel c) ns) (filter (on_channel c) ns))
    pick None true e f r = r ∙ ap (λ t. pair_if z n.channel t (pairs_of z o table (filter (on_channel c) ns))) (sym e)
    pick None false e f r = r
    pick (Some t) true e f r =
        passes c (record { part = record { port = z; channel = n.channel }; steps = t.steps }) (pairs_of z o table ns) (pairs_ordered z o table ns) f
        ∙ ap (with_pair (record { part = record { port = z; channel = n.channel }; steps = t.steps })) r
        ∙ ap (λ x. pair_if z n.channel x (pairs_of z o table (filter (on_channel c) ns))) (sym e)
    pick (Some t) false e f r = stops c (record { part = record { port = z; channel = n.channel }; steps = t.steps }) (pairs_of z o table ns) f ∙ r

-- ---- of notes
abbrev Front : List Note → List Note → Type 0
Front [] xs = Unit {0}
Front (y ∷ ys) [] = ⊥
Front (y ∷ ys) (x ∷ xs) = (x.channel ≡ y.channel) × Front ys xs

front_same : (ns : List Note) → Front ns ns
front_same [] = tt
front_same (n ∷ ns) = (refl, front_same ns)

front_grown : (t : ℕ) (b ns xs : List Note) → Grows t b ns xs → Front ns xs
front_grown t b [] xs g = tt
front_grown t b (n ∷ ns) [] g = absurd g
front_grown t b (n ∷ ns) (x ∷ xs) g = (g.0.channel, front_grown t b ns xs g.1)

front_then : (xs ys zs : List Note) → Front xs ys → Front ys zs → Front xs zs
front_then [] ys zs f g = tt
front_then (x ∷ xs) [] zs f g = absurd f
front_then (x ∷ xs) (y ∷ ys) [] f g = absurd g
front_then (x ∷ xs) (y ∷ ys) (z ∷ zs) f g = (g.0 ∙ f.0, front_then xs ys zs f.1 g.1)

front_at : {at : ℕ → List Note} {tick : ℕ → ℕ} {reset : ℕ → Bool} {begun : ℕ → List Note} → Timeline at tick reset begun → (j k : ℕ) → j ≤ k → Front (at j) (at k)
front_at {at} T j zero l = let e : j ≡ 0 = omega (arith, l) in subst (λ i. Front (at i) (at 0)) (sym e) (front_same (at 0))
front_at {at} {tick} {reset} {begun} T j (suc k) l = elim (cases_lt k j) [
  | inl g ↦ let e : j ≡ suc k = omega (arith, l, g) in subst (λ i. Front (at i) (at (suc k))) (sym e) (front_same (at (suc k)))
  | inr g ↦ front_then (at j) (at k) (at (suc k)) (front_at T j k g) (front_grown (tick (suc k)) (begun (suc k)) (at k) (at (suc k)) (T.grows k))
]

drop_alone : (c : ℕ → Bool) (ys xs : List Note) → Front ys xs → filter (on_channel c) (drop (length ys) xs) ≡ drop (length (filter (on_channel c) ys)) (filter (on_channel c) xs)
drop_alone c [] xs f = refl
drop_alone c (y ∷ ys) [] f = absurd f
drop_alone c (y ∷ ys) (x ∷ xs) f = pick (on_channel c y) (on_channel c x) (ap c f.0) (drop_alone c ys xs f.1)
  where
    pick : (a b : Bool) → b ≡ a → filter (on_channel c) (drop (length ys) xs) ≡ drop (length (filter (on_channel c) ys)) (filter (on_channel c) xs)
        → filter (on_channel c) (drop (length ys) xs) ≡ drop (length (cond a (y ∷ filter (on_channel c) ys) (filter (on_channel c) ys))) (cond b (x ∷ filter (on_channel c) xs) (filter (on_channel c) xs))
    pick true true e r = r
    pick false false e r = r
    pick true false e r = absurd cc
    pick false true e r = absurd cc

swapped : (f g : Note → Bool) (ns : List Note) → filter g (filter f ns) ≡ filter f (filter g ns)
swapped f g [] = refl
swapped f g (n ∷ ns) = pick (f n) (g n) refl refl (swapped f g ns)
  where
    pick : (a b : Bool) → f n ≡ a → g n ≡ b → filter g (filter f ns) ≡ filter f (filter g ns) → filter g (cond a (n ∷ filter f ns) (filter f ns)) ≡ filter f (cond b (n ∷ filter g ns) (filter g ns))
    pick true true e h r = cond-true (g n) (n ∷ filter g (filter f ns)) (filter g (filter f ns)) h ∙ ap (λ xs. n ∷ xs) r ∙ sym (cond-true (f n) (n ∷ filter f (filter g ns)) (filter f (filter g ns)) e)
    pick true false e h r = cond-false (g n) (n ∷ filter g (filter f ns)) (filter g (filter f ns)) h ∙ r
    pick false true e h r = r ∙ sym (cond-false (f n) (n ∷ filter f (filter g ns)) (filter f (filter g ns)) e)
    pick false false e h r = r

notes_alone : (part : ℕ → Bool) (c : ℕ → Bool) (ns : List Numbered) (k : ℕ) → notes_at (λ d. part d && c d) ns k ≡ filter (on_channel c) (notes_at part ns k)
notes_alone part c ns k = sym (filter_twice (λ n. part n.channel) (on_channel c) (music_at ns k).notes)

pub part_alone : (o : Options) (part : ℕ → Bool) (table : Targets) (port : PortEvents) (c : ℕ → Bool) → Timely port → (k : ℕ)
    → filter (of_part c) (pairs_at o part table port k) ≡ pairs_at o (λ d. part d && c d) table port k
part_alone o part table port c timed k =
    let r : ℕ = last_reset (is_reset_at port.events) k in
    pairs_alone port.number o table c (holding part o.tail port k)
    ∙ ap (pairs_of port.number o table) (
    swapped (lasts o.tail (port.tick k)) (on_channel c) (drop (past_at part port.events k) (notes_at part port.events k))
    ∙ ap (filter (lasts o.tail (port.tick k))) (
    drop_alone c (notes_at part port.events r) (notes_at part port.events k) (front_at (timeline part port timed) r k (last_reset_le (is_reset_at port.events) k))
    ∙ ap (λ ys. drop (length ys) (filter (on_channel c) (notes_at part port.events k))) (sym (notes_alone part c port.events r))
    ∙ ap (drop (past_at (λ d. part d && c d) port.events k)) (sym (notes_alone part c port.events k))))

-- ---- tests that say the same
notes_same : (f g : ℕ → Bool) → ((c : ℕ) → f c ≡ g c) → (ns : List Note) → filter (on_channel f) ns ≡ filter (on_channel g) ns
notes_same f g same [] = refl
notes_same f g same (n ∷ ns) =
    ap (λ b. cond b (n ∷ filter (on_channel f) ns) (filter (on_channel f) ns)) (same n.channel)
    ∙ ap (λ xs. cond (g n.channel) (n ∷ xs) xs) (notes_same f g same ns)

pairs_same : (o : Options) (f g : ℕ → Bool) → ((c : ℕ) → f c ≡ g c) → (table : Targets) (port : PortEvents) (k : ℕ) → pairs_at o f table port k ≡ pairs_at o g table port k
pairs_same o f g same table port k =
    let r : ℕ = last_reset (is_reset_at port.events) k in
    let h : List Note → List Note → List Pair = λ past ns. pairs_of port.number o table (filter (lasts o.tail (port.tick k)) (drop (length past) ns)) in
    ap (λ past. h past (notes_at f port.events k)) (notes_same f g same (music_at port.events r).notes)
    ∙ ap (h (notes_at g port.events r)) (notes_same f g same (music_at port.events k).notes)

-- some of the parts
pub parts_within : (o : Options) (part some : ℕ → Bool) (table : Targets) (port : PortEvents) → Timely port → ((c : ℕ) → some c ≡ true → part c ≡ true) → (k : ℕ)
    → filter (of_part some) (pairs_at o part table port k) ≡ pairs_at o some table port k
parts_within o part some table port timed within k =
    part_alone o part table port some timed k ∙ pairs_same o (λ d. part d && some d) some (λ d. both (part d) (some d) (within d)) table port k
  where
    both : (a b : Bool) → (b ≡ true → a ≡ true) → (a && b) ≡ b
    both true b f = refl
    both false true f = f refl
    both false false f = refl
