-- Lists of pairs by part and then by steps, with nothing twice; and the pairs of a list of notes.
use Rattle.std.proofs.Common.{◌≡◌, ◌≤◌, ◌<◌, ◌+◌, ◌-◌, ℕ, zero, suc, ℤ, pos, negsuc, List, [], ◌∷◌, Bool, true, false, cond, ◌&&◌, Option, Some, None, refl, ap, sym, ◌∙◌, subst, length, get_or, drop, arith, inl, inr, nat_eq, nat_lt}
use Rattle.std.specs.Prelude.{is_some, ◌⊎◌}
use Rattle.std.specs.List.{AllByRecursion, IsDistinct, filter}
use Rattle.std.specs.Set.{is_member}
use Rattle.std.proofs.lemmas.Bool.{cases_Bool, cases_order, or_cases, or_left, or_right, or_parts, and_parts, and_from, both_ways, ltb-true, lt-ltb, eqb-true, eqb-false, eq-eqb, ne_eqb, and_left, and_right}
use Rattle.std.proofs.lemmas.List.{get_or-drop, length-drop}
use Rattle.retune_model.specs.Pairs.{Part, Pair, is_same_part, is_same_pair, int_lt, is_earlier_part, is_before, with_pair, pair_if, pairs_of}
use Rattle.midi_model.specs.Notes.{Note}
use Rattle.retune_model.specs.Table.{BendTarget}
use Rattle.retune_model.specs.Options.{Options}
use Rattle.retune_model.specs.Faults.{Targets, int_eq, target_of}
use Rattle.retune_model.specs.Ports.{PortEvents}
use Rattle.retune_model.specs.Rests.{nobody, steps_of, pair_of, lasts, holding, held_at}
use Rattle.retune_model.specs.PairOrder.{AreOrdered}
use Rattle.retune_model.proofs.SamePairs.{same_part, part_itself, same_pair, pair_itself}
use Rattle.retune_model.proofs.Moments.{HasTarget}

-- ---- the order
int_then : (a b c : ℤ) → int_lt a b ≡ true → int_lt b c ≡ true → int_lt a c ≡ true
int_then (pos a) (pos b) (pos c) h k = let x : a < b = ltb-true a b h in let y : b < c = ltb-true b c k in lt-ltb a c (omega (arith, x, y))
int_then (pos a) (pos b) (negsuc c) h k = absurd cc
int_then (pos a) (negsuc b) c h k = absurd cc
int_then (negsuc a) b (pos c) h k = refl
int_then (negsuc a) (pos b) (negsuc c) h k = absurd cc
int_then (negsuc a) (negsuc b) (negsuc c) h k = let x : b < a = ltb-true b a h in let y : c < b = ltb-true c b k in lt-ltb c a (omega (arith, x, y))

nat_other : (a b : ℕ) → nat_lt a b ≡ false → nat_eq a b ≡ false → b < a
nat_other a b h k = elim (cases_order a b) [
  | inl e ↦ absurd (eqb-false a b k e)
  | inr l ↦ elim l [ inl g ↦ absurd (both_ways (nat_lt a b) h (lt-ltb a b g)) | inr g ↦ g ]
]

int_other : (a b : ℤ) → int_lt a b ≡ false → int_eq a b ≡ false → int_lt b a ≡ true
int_other (pos a) (pos b) h k = lt-ltb b a (nat_other a b h k)
int_other (pos a) (negsuc b) h k = refl
int_other (negsuc a) (pos b) h k = absurd cc
int_other (negsuc a) (negsuc b) h k = lt-ltb a b (let g : nat_eq b a ≡ false = ne_eqb b a (λ e. eqb-false a b k (sym e)) in nat_other b a h g)

pub int_apart : (a b : ℤ) → int_lt a b ≡ true → int_eq a b ≡ false
int_apart (pos a) (pos b) h = let x : a < b = ltb-true a b h in ne_eqb a b (λ e. omega (arith, x, e))
int_apart (pos a) (negsuc b) h = absurd cc
int_apart (negsuc a) (pos b) h = refl
int_apart (negsuc a) (negsuc b) h = let x : b < a = ltb-true b a h in ne_eqb a b (λ e. omega (arith, x, e))

-- an earlier part: of an earlier port, or of the same and an earlier channel
part_cases : (p q : Part) → is_earlier_part p q ≡ true → (p.port < q.port) ⊎ ((p.port ≡ q.port) × (p.channel < q.channel))
part_cases p q h = elim (or_cases (nat_lt p.port q.port) (nat_eq p.port q.port && nat_lt p.channel q.channel) h) [
  | inl l ↦ inl (ltb-true p.port q.port l)
  | inr e ↦ let two = and_parts (nat_eq p.port q.port) (nat_lt p.channel q.channel) e in inr (eqb-true p.port q.port two.0, ltb-true p.channel q.channel two.1)
]

part_by_port : (p q : Part) → p.port < q.port → is_earlier_part p q ≡ true
part_by_port p q l = or_left (nat_lt p.port q.port) (nat_eq p.port q.port && nat_lt p.channel q.channel) (lt-ltb p.port q.port l)

part_by_channel : (p q : Part) → p.port ≡ q.port → p.channel < q.channel → is_earlier_part p q ≡ true
part_by_channel p q e l = or_right (nat_lt p.port q.port) (nat_eq p.port q.port && nat_lt p.channel q.channel)
    (and_from (nat_eq p.port q.port) (nat_lt p.channel q.channel) (eq-eqb p.port q.port e) (lt-ltb p.channel q.channel l))

part_then : (p q r : Part) → is_earlier_part p q ≡ true → is_earlier_part q r ≡ true → is_earlier_part p r ≡ true
part_then p q r h k = elim (part_cases p q h) [
  | inl a ↦ elim (part_cases q r k) [ inl b ↦ part_by_port p r (omega (arith, a, b)) | inr b ↦ part_by_port p r (let e : q.port ≡ r.port = b.0 in omega (arith, a, e)) ]
  | inr a ↦ elim (part_cases q r k) [
    | inl b ↦ part_by_port p r (let e : p.port ≡ q.port = a.0 in omega (arith, b, e))
    | inr b ↦ part_by_channel p r (a.0 ∙ b.0) (let l : p.channel < q.channel = a.1 in let m : q.channel < r.channel = b.1 in omega (arith, l, m))
  ]
]

-- of two parts that differ one is earlier
part_other : (p q : Part) → is_earlier_part p q ≡ false → is_same_part p q ≡ false → is_earlier_part q p ≡ true
part_other p q h k =
    let a = or_parts (nat_lt p.port q.port) (nat_eq p.port q.port && nat_lt p.channel q.channel) h in
    elim (cases_Bool (nat_eq p.port q.port)) [
      | inl e ↦ part_by_channel q p (sym (eqb-true p.port q.port e)) (nat_other p.channel q.channel (ap (λ b. b && nat_lt p.channel q.channel) (sym e) ∙ a.1) (ap (λ b. b && nat_eq p.channel q.channel) (sym e) ∙ k))
      | inr e ↦ part_by_port q p (nat_other p.port q.port a.0 e)
    ]

part_apart : (p q : Part) → is_earlier_part p q ≡ true → is_same_part p q ≡ false
part_apart p q h = elim (part_cases p q h) [
  | inl l ↦ and_left (nat_eq p.port q.port) (nat_eq p.channel q.channel) (ne_eqb p.port q.port (λ e. omega (arith, l, e)))
  | inr e ↦ and_right (nat_eq p.port q.port) (nat_eq p.channel q.channel) (ne_eqb p.channel q.channel (λ f. let l : p.channel < q.channel = e.1 in omega (arith, l, f)))
]

pub before_cases : (p q : Pair) → is_before p q ≡ true → (is_earlier_part p.part q.part ≡ true) ⊎ ((p.part ≡ q.part) × (int_lt p.steps q.steps ≡ true))
before_cases p q h = elim (or_cases (is_earlier_part p.part q.part) (is_same_part p.part q.part && int_lt p.steps q.steps) h) [
  | inl l ↦ inl l
  | inr e ↦ let two = and_parts (is_same_part p.part q.part) (int_lt p.steps q.steps) e in inr (same_part p.part q.part two.0, two.1)
]

before_by_part : (p q : Pair) → is_earlier_part p.part q.part ≡ true → is_before p q ≡ true
before_by_part p q l = or_left (is_earlier_part p.part q.part) (is_same_part p.part q.part && int_lt p.steps q.steps) l

before_by_steps : (p q : Pair) → p.part ≡ q.part → int_lt p.steps q.steps ≡ true → is_before p q ≡ true
before_by_steps p q e l = or_right (is_earlier_part p.part q.part) (is_same_part p.part q.part && int_lt p.steps q.steps) (and_from (is_same_part p.part q.part) (int_lt p.steps q.steps) (part_itself p.part q.part e) l)

pub before_then : (p q r : Pair) → is_before p q ≡ true → is_before q r ≡ true → is_before p r ≡ true
before_then p q r h k = elim (before_cases p q h) [
  | inl a ↦ elim (before_cases q r k) [
    | inl b ↦ before_by_part p r (part_then p.part q.part r.part a b)
    | inr b ↦ before_by_part p r (ap (is_earlier_part p.part) (sym b.0) ∙ a)
  ]
  | inr a ↦ elim (before_cases q r k) [
    | inl b ↦ before_by_part p r (ap (λ x. is_earlier_part x r.part) a.0 ∙ b)
    | inr b ↦ before_by_steps p r (a.0 ∙ b.0) (int_then p.steps q.steps r.steps a.1 b.1)
  ]
]

before_other : (p q : Pair) → is_before p q ≡ false → is_same_pair p q ≡ false → is_before q p ≡ true
before_other p q h k =
    let a = or_parts (is_earlier_part p.part q.part) (is_same_part p.part q.part && int_lt p.steps q.steps) h in
    elim (cases_Bool (is_same_part p.part q.part)) [
      | inl e ↦ before_by_steps q p (sym (same_part p.part q.part e)) (int_other p.steps q.steps (ap (λ b. b && int_lt p.steps q.steps) (sym e) ∙ a.1) (ap (λ b. b && int_eq p.steps q.steps) (sym e) ∙ k))
      | inr e ↦ before_by_part q p (part_other p.part q.part a.0 e)
    ]

pub before_apart : (p q : Pair) → is_before p q ≡ true → is_same_pair p q ≡ false
before_apart p q h = elim (before_cases p q h) [
  | inl l ↦ and_left (is_same_part p.part q.part) (int_eq p.steps q.steps) (part_apart p.part q.part l)
  | inr e ↦ and_right (is_same_part p.part q.part) (int_eq p.steps q.steps) (int_apart p.steps q.steps e.1)
]

-- ---- lists in this order
pub all_then : (P Q : Pair → Type 0) → ((p : Pair) → P p → Q p) → (ps : List Pair) → AllByRecursion P ps → AllByRecursion Q ps
all_then P Q f [] h = tt
all_then P Q f (p ∷ ps) h = (f p h.0, all_then P Q f ps h.1)

with_all : (P : Pair → Type 0) (p : Pair) → P p → (ps : List Pair) → AllByRecursion P ps → AllByRecursion P (with_pair p ps)
with_all P p x [] h = (x, tt)
with_all P p x (q ∷ qs) h = pick (is_before p q) (is_same_pair p q) (with_all P p x qs h.1)
  where
    pick : (a b : Bool) → AllByRecursion P (with_pair p qs) → AllByRecursion P (cond a (p ∷ q ∷ qs) (cond b (q ∷ qs) (q ∷ with_pair p qs)))
    pick true b r = (x, h)
    pick false true r = h
    pick false false r = (h.0, r)

pub with_ordered : (p : Pair) (ps : List Pair) → AreOrdered ps → AreOrdered (with_pair p ps)
with_ordered p [] h = (tt, tt)
with_ordered p (q ∷ qs) h = pick (is_before p q) (is_same_pair p q) refl refl (with_ordered p qs h.1)
  where
    pick : (a b : Bool) → is_before p q ≡ a → is_same_pair p q ≡ b → AreOrdered (with_pair p qs) → AreOrdered (cond a (p ∷ q ∷ qs) (cond b (q ∷ qs) (q ∷ with_pair p qs)))
    pick true b e f r = ((e, all_then (λ x. is_before q x ≡ true) (λ x. is_before p x ≡ true) (λ x g. before_then p q x e g) qs h.0), h)
    pick false true e f r = h
    pick false false e f r = (with_all (λ x. is_before q x ≡ true) p (before_other p q e f) qs h.0, r)

pub pairs_ordered : (z : ℕ) (o : Options) (table : Targets) (ns : List Note) → AreOrdered (pairs_of z o table ns)
pairs_ordered z o table [] = tt
pairs_ordered z o table (n ∷ ns) = pick (target_of o table n) (pairs_ordered z o table ns)
  where
    pick : (t : Option BendTarget) → AreOrdered (pairs_of z o table ns) → AreOrdered (pair_if z n.channel t (pairs_of z o table ns))
    pick (Some t) h = with_ordered (record { part = record { port = z; channel = n.channel }; steps = t.steps }) (pairs_of z o table ns) h
    pick None h = h

pub held_ordered : (o : Options) (part : ℕ → Bool) (table : Targets) (port : PortEvents) (k : ℕ) → AreOrdered (held_at o part table port k)
held_ordered o part table port zero = tt
held_ordered o part table port (suc k) = pairs_ordered port.number o table (filter (lasts o.tail (port.tick (suc k))) (holding part o.tail port k))

pub ordered_distinct : (ps : List Pair) → AreOrdered ps → IsDistinct is_same_pair ps
unfolding IsDistinct
ordered_distinct [] h = tt
ordered_distinct (p ∷ ps) h = (all_then (λ q. is_before p q ≡ true) (λ q. is_same_pair p q ≡ false) (λ q l. before_apart p q l) ps h.0, ordered_distinct ps h.1)

-- ---- members
abbrev pub Has : List Pair → Pair → Type 0
Has ps p = is_member is_same_pair ps p ≡ true

pub itself : (p : Pair) → is_same_pair p p ≡ true
itself p = pair_itself p p refl

abbrev made : ℕ → ℕ → ℤ → Pair
made z c steps = record { part = record { port = z; channel = c }; steps = steps }

pub with_has : (p : Pair) (ps : List Pair) → Has (with_pair p ps) p
with_has p [] = or_left (is_same_pair p p) false (itself p)
with_has p (q ∷ qs) = pick (is_before p q) (is_same_pair p q) refl (with_has p qs)
  where
    pick : (a b : Bool) → is_same_pair p q ≡ b → Has (with_pair p qs) p → Has (cond a (p ∷ q ∷ qs) (cond b (q ∷ qs) (q ∷ with_pair p qs))) p
    pick true b e r = or_left (is_same_pair p p) (is_member is_same_pair (q ∷ qs) p) (itself p)
    pick false true e r = or_left (is_same_pair p q) (is_member is_same_pair qs p) e
    pick false false e r = or_right (is_same_pair p q) (is_member is_same_pair (with_pair p qs) p) r

pub with_keeps : (p : Pair) (ps : List Pair) (x : Pair) → Has ps x → Has (with_pair p ps) x
with_keeps p [] x h = absurd cc
with_keeps p (q ∷ qs) x h = pick (is_before p q) (is_same_pair p q) (or_cases (is_same_pair x q) (is_member is_same_pair qs x) h) (with_keeps p qs x)
  where
    pick : (a b : Bool) → (is_same_pair x q ≡ true) ⊎ Has qs x → (Has qs x → Has (with_pair p qs) x) → Has (cond a (p ∷ q ∷ qs) (cond b (q ∷ qs) (q ∷ with_pair p qs))) x
    pick true b r later = or_right (is_same_pair x p) (is_member is_same_pair (q ∷ qs) x) h
    pick false true r later = h
    pick false false (inl e) later = or_left (is_same_pair x q) (is_member is_same_pair (with_pair p qs) x) e
    pick false false (inr e) later = or_right (is_same_pair x q) (is_member is_same_pair (with_pair p qs) x) (later e)

pub with_back : (p : Pair) (ps : List Pair) (x : Pair) → Has (with_pair p ps) x → (p ≡ x) ⊎ Has ps x
with_back p [] x h = elim (or_cases (is_same_pair x p) false h) [ inl e ↦ inl (sym (same_pair x p e)) | inr e ↦ absurd cc ]
with_back p (q ∷ qs) x h = pick (is_before p q) (is_same_pair p q) h (with_back p qs x)
  where
    pick : (a b : Bool) → Has (cond a (p ∷ q ∷ qs) (cond b (q ∷ qs) (q ∷ with_pair p qs))) x → (Has (with_pair p qs) x → (p ≡ x) ⊎ Has qs x) → (p ≡ x) ⊎ Has (q ∷ qs) x
    pick true b r later = elim (or_cases (is_same_pair x p) (is_member is_same_pair (q ∷ qs) x) r) [ inl e ↦ inl (sym (same_pair x p e)) | inr e ↦ inr e ]
    pick false true r later = inr r
    pick false false r later = elim (or_cases (is_same_pair x q) (is_member is_same_pair (with_pair p qs) x) r) [
      | inl e ↦ inr (or_left (is_same_pair x q) (is_member is_same_pair qs x) e)
      | inr e ↦ elim (later e) [ inl same ↦ inl same | inr g ↦ inr (or_right (is_same_pair x q) (is_member is_same_pair qs x) g) ]
    ]

-- ---- the pairs of the notes that pass a test
pub if_has : (z : ℕ) (o : Options) (table : Targets) (n : Note) (ps : List Pair) → HasTarget o table n → Has (pair_if z n.channel (target_of o table n) ps) (pair_of z o table n)
if_has z o table n ps h = pick (target_of o table n) h
  where
    pick : (t : Option BendTarget) → is_some t ≡ true → Has (pair_if z n.channel t ps) (record { part = record { port = z; channel = n.channel }; steps = steps_of t })
    pick (Some t) e = with_has (record { part = record { port = z; channel = n.channel }; steps = t.steps }) ps
    pick None e = absurd cc

if_keeps : (z : ℕ) (o : Options) (table : Targets) (n : Note) (ps : List Pair) (x : Pair) → Has ps x → Has (pair_if z n.channel (target_of o table n) ps) x
if_keeps z o table n ps x h = pick (target_of o table n)
  where
    pick : (t : Option BendTarget) → Has (pair_if z n.channel t ps) x
    pick (Some t) = with_keeps (record { part = record { port = z; channel = n.channel }; steps = t.steps }) ps x h
    pick None = h

pub if_back : (z : ℕ) (o : Options) (table : Targets) (n : Note) (ps : List Pair) (x : Pair) → Has (pair_if z n.channel (target_of o table n) ps) x → ((pair_of z o table n ≡ x) × HasTarget o table n) ⊎ Has ps x
if_back z o table n ps x h = pick (target_of o table n) h
  where
    pick : (t : Option BendTarget) → Has (pair_if z n.channel t ps) x → ((made z n.channel (steps_of t) ≡ x) × (is_some t ≡ true)) ⊎ Has ps x
    pick (Some t) g = elim (with_back (record { part = record { port = z; channel = n.channel }; steps = t.steps }) ps x g) [ inl e ↦ inl (e, refl) | inr e ↦ inr e ]
    pick None g = inr g

pub record IsOf (z : ℕ) (o : Options) (table : Targets) (test : Note → Bool) (ns : List Note) (p : Pair) (i : ℕ) : Type 0 where
  pub there : i < length ns
  pub passes : test (get_or ns i nobody) ≡ true
  pub pair : pair_of z o table (get_or ns i nobody) ≡ p
  pub aimed : HasTarget o table (get_or ns i nobody)

pub found : (z : ℕ) (o : Options) (table : Targets) (test : Note → Bool) (ns : List Note) (p : Pair) → Has (pairs_of z o table (filter test ns)) p → (i : ℕ) × IsOf z o table test ns p i
found z o table test [] p h = absurd cc
found z o table test (n ∷ ns) p h = pick (test n) refl h (λ r.
    let x = found z o table test ns p r in
    (suc x.0, record { there = (let l : x.0 < length ns = x.1.there in omega (arith, l)); passes = x.1.passes; pair = x.1.pair; aimed = x.1.aimed }))
  where
    pick : (a : Bool) → test n ≡ a → Has (pairs_of z o table (cond a (n ∷ filter test ns) (filter test ns))) p → (Has (pairs_of z o table (filter test ns)) p → (i : ℕ) × IsOf z o table test (n ∷ ns) p i) → (i : ℕ) × IsOf z o table test (n ∷ ns) p i
    pick false e r later = later r
    pick true e r later = elim (if_back z o table n (pairs_of z o table (filter test ns)) p r) [
      | inl same ↦ (0, record { there = omega arith; passes = e; pair = same.0; aimed = same.1 })
      | inr g ↦ later g
    ]

pub placed : (z : ℕ) (o : Options) (table : Targets) (test : Note → Bool) (ns : List Note) (i : ℕ) → i < length ns → test (get_or ns i nobody) ≡ true → HasTarget o table (get_or ns i nobody)
    → Has (pairs_of z o table (filter test ns)) (pair_of z o table (get_or ns i nobody))
placed z o table test [] i l h t = absurd (omega (arith, l))
placed z o table test (n ∷ ns) zero l h t = subst (λ b. Has (pairs_of z o table (cond b (n ∷ filter test ns) (filter test ns))) (pair_of z o table n)) (sym h) (if_has z o table n (pairs_of z o table (filter test ns)) t)
placed z o table test (n ∷ ns) (suc i) l h t = pick (test n) (placed z o table test ns i (omega (arith, l)) h t)
  where
    pick : (a : Bool) → Has (pairs_of z o table (filter test ns)) (pair_of z o table (get_or ns i nobody)) → Has (pairs_of z o table (cond a (n ∷ filter test ns) (filter test ns))) (pair_of z o table (get_or ns i nobody))
    pick false r = r
    pick true r = if_keeps z o table n (pairs_of z o table (filter test ns)) (pair_of z o table (get_or ns i nobody)) r

-- the same for what is left behind the first c
pub record IsBehind (z : ℕ) (o : Options) (table : Targets) (test : Note → Bool) (c : ℕ) (ns : List Note) (p : Pair) (i : ℕ) : Type 0 where
  pub later : c ≤ i
  pub there : i < length ns
  pub passes : test (get_or ns i nobody) ≡ true
  pub pair : pair_of z o table (get_or ns i nobody) ≡ p

pub found_behind : (z : ℕ) (o : Options) (table : Targets) (test : Note → Bool) (c : ℕ) (ns : List Note) (p : Pair) → Has (pairs_of z o table (filter test (drop c ns))) p → (i : ℕ) × IsBehind z o table test c ns p i
found_behind z o table test c ns p h =
    let x = found z o table test (drop c ns) p h in
    let l : x.0 < length (drop c ns) = x.1.there in
    let e : length (drop c ns) ≡ length ns - c = length-drop c ns in
    let same : get_or (drop c ns) x.0 nobody ≡ get_or ns (c + x.0) nobody = get_or-drop c ns x.0 nobody in
    (c + x.0, record { later = omega arith; there = omega (arith, l, e); passes = ap test (sym same) ∙ x.1.passes; pair = ap (pair_of z o table) (sym same) ∙ x.1.pair })

pub placed_behind : (z : ℕ) (o : Options) (table : Targets) (test : Note → Bool) (c : ℕ) (ns : List Note) (i : ℕ) → c ≤ i → i < length ns → test (get_or ns i nobody) ≡ true → HasTarget o table (get_or ns i nobody)
    → Has (pairs_of z o table (filter test (drop c ns))) (pair_of z o table (get_or ns i nobody))
placed_behind z o table test c ns i l there h t =
    let j : ℕ = i - c in
    let e : length (drop c ns) ≡ length ns - c = length-drop c ns in
    let at : c + j ≡ i = omega (arith, l) in
    let same : get_or (drop c ns) j nobody ≡ get_or ns i nobody = get_or-drop c ns j nobody ∙ ap (λ k. get_or ns k nobody) at in
    subst (λ n. Has (pairs_of z o table (filter test (drop c ns))) (pair_of z o table n)) same
    (placed z o table test (drop c ns) j (omega (arith, e, l, there)) (ap test same ∙ h) (ap (λ n. is_some (target_of o table n)) same ∙ t))
