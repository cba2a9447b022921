-- The place of a port among those that have had a channel message.
use Rattle.std.proofs.Common.{◌≡◌, ◌≢◌, ◌≤◌, ◌<◌, ◌+◌, ◌∙◌, ℕ, zero, suc, List, [], ◌∷◌, ◌++◌, Bool, true, false, cond, ◌||◌, length, refl, sym, ap, nat_eq, slice_index_or, arith, map, take, drop, reverse, subst}
use Rattle.std.specs.List.{AllByRecursion}
use Rattle.std.proofs.lemmas.Grind.{reverse_onto}
use Rattle.std.proofs.lemmas.Bool.{eq-eqb, ne_eqb, eqb-true}
use Rattle.mt_base.specs.Midi.{MidiEvent}
use Rattle.retune_model.specs.Ports.{port_of, ports_from, ports_after}
use Rattle.retune_model.specs.SourceFaults.{is_message, has_port, with_port, ports_used}
use Rattle.lifetimes.specs.Stands.{place_from}

-- the elements from a place on, among the first u
pub from_place : {X : Type 0} (xs : List X) (u i : ℕ) (x d : X) → i < u → i < length xs → x ≡ slice_index_or xs i d → drop i (take u xs) ≡ x ∷ drop (suc i) (take u xs)
from_place [] u i x d few within is = absurd (omega (arith, within))
from_place (y ∷ ys) zero i x d few within is = absurd (omega (arith, few))
from_place (y ∷ ys) (suc u) zero x d few within is = ap (λ z. z ∷ take u ys) (sym is)
from_place (y ∷ ys) (suc u) (suc i) x d few within is = from_place ys u i x d (omega (arith, few)) (omega (arith, within)) is

pub none_from : {X : Type 0} (xs : List X) (u i : ℕ) → u ≤ i → drop i (take u xs) ≡ []
none_from [] zero zero le = refl
none_from [] zero (suc i) le = refl
none_from [] (suc u) zero le = absurd (omega (arith, le))
none_from [] (suc u) (suc i) le = refl
none_from (x ∷ xs) zero zero le = refl
none_from (x ∷ xs) zero (suc i) le = refl
none_from (x ∷ xs) (suc u) zero le = absurd (omega (arith, le))
none_from (x ∷ xs) (suc u) (suc i) le = none_from xs u i (omega (arith, le))

drop_map : {X Y : Type 0} (f : X → Y) (i : ℕ) (xs : List X) → drop i (map f xs) ≡ map f (drop i xs)
drop_map f zero xs = refl
drop_map f (suc i) [] = refl
drop_map f (suc i) (x ∷ xs) = drop_map f i xs

pub map_from : {X Y : Type 0} (f : X → Y) (xs : List X) (u i : ℕ) (x d : X) → i < u → i < length xs → x ≡ slice_index_or xs i d
    → drop i (map f (take u xs)) ≡ f x ∷ drop (suc i) (map f (take u xs))
map_from f xs u i x d few within is = drop_map f i (take u xs) ∙ (ap (map f) (from_place xs u i x d few within is) ∙ ap (λ ys. f x ∷ ys) (sym (drop_map f (suc i) (take u xs))))

pub none_map : {X Y : Type 0} (f : X → Y) (xs : List X) (u i : ℕ) → u ≤ i → drop i (map f (take u xs)) ≡ []
none_map f xs u i le = drop_map f i (take u xs) ∙ ap (map f) (none_from xs u i le)

-- ---- the search, place by place

pub another : (i z n : ℕ) (ns : List ℕ) → n ≢ z → place_from i z (n ∷ ns) ≡ place_from (suc i) z ns
another i z n ns other = ap (λ b. cond b i (place_from (suc i) z ns)) (ne_eqb n z other)

pub found : (i z n : ℕ) (ns : List ℕ) → n ≡ z → place_from i z (n ∷ ns) ≡ i
found i z n ns same = ap (λ b. cond b i (place_from (suc i) z ns)) (eq-eqb n z same)

pub place_ge : (i z : ℕ) (ns : List ℕ) → i ≤ place_from i z ns
place_ge i z [] = omega arith
place_ge i z (n ∷ ns) = pick (nat_eq n z) (place_ge (suc i) z ns)
  where
    pick : (b : Bool) → suc i ≤ place_from (suc i) z ns → i ≤ cond b i (place_from (suc i) z ns)
    pick true h = omega arith
    pick false h = omega (arith, h)

pub place_le : (i z : ℕ) (ns : List ℕ) → place_from i z ns ≤ i + length ns
place_le i z [] = omega arith
place_le i z (n ∷ ns) = pick (nat_eq n z) (place_le (suc i) z ns)
  where
    pick : (b : Bool) → place_from (suc i) z ns ≤ suc i + length ns → cond b i (place_from (suc i) z ns) ≤ i + suc (length ns)
    pick true h = omega arith
    pick false h = omega (arith, h)

-- at the place stands the port
pub at_place : (i z : ℕ) (ns : List ℕ) (j n : ℕ) (rest : List ℕ) → place_from i z ns ≡ i + j → drop j ns ≡ n ∷ rest → n ≡ z
at_place i z [] zero n rest is here = absurd cc
at_place i z [] (suc j) n rest is here = absurd cc
at_place i z (x ∷ ns) zero n rest is here = pick (nat_eq x z) refl is
  where
    pick : (b : Bool) → nat_eq x z ≡ b → cond b i (place_from (suc i) z ns) ≡ i + 0 → n ≡ z
    pick true e is = (let same : x ≡ n = cc in sym same ∙ eqb-true x z e)
    pick false e is = (let ge = place_ge (suc i) z ns in absurd (omega (arith, ge, is)))
at_place i z (x ∷ ns) (suc j) n rest is here = pick (nat_eq x z) is (λ e. at_place (suc i) z ns j n rest e here)
  where
    pick : (b : Bool) → cond b i (place_from (suc i) z ns) ≡ i + suc j → (place_from (suc i) z ns ≡ suc i + j → n ≡ z) → n ≡ z
    pick true is later = absurd (omega (arith, is))
    pick false is later = (let sum : i + suc j ≡ suc i + j = omega arith in later (is ∙ sum))

-- behind them all where none is the port
pub nowhere : (i z : ℕ) (ns : List ℕ) → place_from i z ns ≡ i + length ns → has_port z ns ≡ false
nowhere i z [] is = refl
nowhere i z (x ∷ ns) is = pick (nat_eq x z) is (nowhere (suc i) z ns)
  where
    pick : (b : Bool) → cond b i (place_from (suc i) z ns) ≡ i + suc (length ns) → (place_from (suc i) z ns ≡ suc i + length ns → has_port z ns ≡ false)
        → (b || has_port z ns) ≡ false
    pick true h later = absurd (omega (arith, h))
    pick false h later = (let sum : i + suc (length ns) ≡ suc i + length ns = omega arith in later (h ∙ sum))

pub somewhere : (i z : ℕ) (ns : List ℕ) → has_port z ns ≡ true → place_from i z ns < i + length ns
somewhere i z [] h = absurd cc
somewhere i z (x ∷ ns) h = pick (nat_eq x z) h (somewhere (suc i) z ns)
  where
    pick : (b : Bool) → (b || has_port z ns) ≡ true → (has_port z ns ≡ true → place_from (suc i) z ns < suc i + length ns) → cond b i (place_from (suc i) z ns) < i + suc (length ns)
    pick true h later = omega arith
    pick false h later = (let l = later h in omega (arith, l))

-- ---- lists

pub all_behind : {X : Type 0} (P : X → Type 0) (i : ℕ) (xs : List X) → AllByRecursion P xs → AllByRecursion P (drop i xs)
all_behind P zero xs h = h
all_behind P (suc i) [] h = tt
all_behind P (suc i) (x ∷ xs) h = all_behind P i xs h.1

-- what is so of all that are in use is so of each
pub of_each : {X : Type 0} (P : X → Type 0) (xs : List X) (u i : ℕ) (x d : X) → i < u → i < length xs → x ≡ slice_index_or xs i d → AllByRecursion P (take u xs) → P x
of_each P xs u i x d few within is h = (subst (AllByRecursion P) (from_place xs u i x d few within is) (all_behind P i (take u xs) h)).0

has_append : (z : ℕ) (xs : List ℕ) (y : ℕ) → has_port z (xs ++ y ∷ []) ≡ (nat_eq y z || has_port z xs)
has_append z [] y = refl
has_append z (x ∷ xs) y = ap (λ b. nat_eq x z || b) (has_append z xs y) ∙ turn (nat_eq x z) (nat_eq y z) (has_port z xs)
  where
    turn : (a b c : Bool) → (a || (b || c)) ≡ (b || (a || c))
    turn true true c = refl
    turn true false c = refl
    turn false true c = refl
    turn false false c = refl

pub has_reverse : (z : ℕ) (xs : List ℕ) → has_port z (reverse xs) ≡ has_port z xs
has_reverse z [] = refl
has_reverse z (x ∷ xs) = ap (has_port z) (reverse_onto xs x []) ∙ (has_append z (reverse xs) x ∙ ap (λ b. nat_eq x z || b) (has_reverse z xs))

-- ---- the ports that have had a channel message

pub used_more : (ports : ℕ → ℕ) (used : List ℕ) (es : List MidiEvent) (e : MidiEvent)
    → ports_used ports used (es ++ e ∷ []) ≡ with_port (is_message e.what) (port_of (ports_from ports es) e) (ports_used ports used es)
used_more ports used [] e = refl
used_more ports used (x ∷ es) e = used_more (ports_after ports x) (with_port (is_message x.what) (port_of ports x) used) es e

-- ---- what stands at the place of a port

pub here : {X : Type 0} (f : X → ℕ) (xs : List X) (u z i : ℕ) (x d : X) → i ≡ place_from 0 z (map f (take u xs)) → i < u → i < length xs → x ≡ slice_index_or xs i d → f x ≡ z
here f xs u z i x d place few within is =
    let sum : i ≡ 0 + i = omega arith in
    at_place 0 z (map f (take u xs)) i (f x) _ (sym place ∙ sum) (map_from f xs u i x d few within is)

pub at_most : {X Y : Type 0} (f : X → Y) (u : ℕ) (xs : List X) → length (map f (take u xs)) ≤ u
at_most f zero xs = omega arith
at_most f (suc u) [] = omega arith
at_most f (suc u) (x ∷ xs) = (let l = at_most f u xs in omega (arith, l))

pub none_here : {X : Type 0} (f : X → ℕ) (xs : List X) (u z i : ℕ) → i ≡ place_from 0 z (map f (take u xs)) → u ≤ i → has_port z (map f (take u xs)) ≡ false
none_here f xs u z i place late =
    let l = at_most f u xs in
    let le = place_le 0 z (map f (take u xs)) in
    let all : place_from 0 z (map f (take u xs)) ≡ 0 + length (map f (take u xs)) = omega (arith, l, le, late, place) in
    nowhere 0 z (map f (take u xs)) all

-- a port that isn't among those in use has had no channel message
pub unused : (z : ℕ) (numbers used : List ℕ) → numbers ≡ reverse used → has_port z numbers ≡ false → has_port z used ≡ false
unused z numbers used same none = sym (has_reverse z used) ∙ (ap (has_port z) (sym same) ∙ none)

pub all_more : {X : Type 0} (P : X → Type 0) (xs : List X) (x : X) → AllByRecursion P xs → P x → AllByRecursion P (xs ++ x ∷ [])
all_more P [] x h p = (p, tt)
all_more P (y ∷ xs) x h p = (h.0, all_more P xs x h.1 p)
