-- Sixteen parts, each by itself.
use Rattle.std.proofs.Common.{◌≡◌, ◌≢◌, ◌<◌, ◌≤◌, ◌∙◌, ◌+◌, ℕ, zero, suc, ℤ, List, [], ◌∷◌, Bool, true, false, cond, not, ◌&&◌, Option, Some, None, length, map, set, get_or, refl, sym, ap, subst, arith, inl, inr}
use Rattle.std.proofs.lemmas.Bool.{and_parts, and_from}
use Rattle.std.proofs.lemmas.Bool.Decides.{eqb_tells}
use Rattle.std.proofs.lemmas.List.{map-set, get_or-set_same, get_or-set_other, get_or-map, get_or_default, length-map, length-set}
use Rattle.retune_model.specs.Faults.{int_eq}
use Rattle.retune_model.specs.Rests.{is_within_tail}
use Rattle.lifetimes.specs.declared.notes.Notes.{Notes}
use Rattle.lifetimes.specs.declared.port.Port.{Port}
use Rattle.lifetimes.specs.declared.port.Strike.{Strike}
use Rattle.lifetimes.specs.Lists.{ListsSounding, any_key, entry_at, entry_of}
use Rattle.lifetimes.specs.Resting.{end_kept}
use Rattle.lifetimes.specs.OnePart.{IsPartKept, IsKeptOrLost, PartEnds, PartForgets, is_placed, are_placed}
use Rattle.lifetimes.specs.Port.{ListsAll, IsKept, HasPlace, EachPart, all_placed, struck_in, listed_in, rests_in}
use Rattle.lifetimes.proofs.Placed.{placed_of, admitted_of}
use Rattle.lifetimes.proofs.PartEnding.{none_ends, both_forget}

-- ---- lists of parts

pub first : (ns : List Notes) → 0 < length ns → Notes
first [] h = absurd (omega (arith, h))
first (n ∷ ns) h = n

pub placed_at : (ns : List Notes) (c : ℕ) (d : Notes) → all_placed ns ≡ true → c < length ns
    → are_placed (get_or ns c d).rests.items.items (get_or ns c d).sounding.items ≡ true
placed_at [] c d k low = absurd (omega (arith, low))
placed_at (n ∷ ns) zero d k low = (and_parts (are_placed n.rests.items.items n.sounding.items) (all_placed ns) k).0
placed_at (n ∷ ns) (suc c) d k low = placed_at ns c d (and_parts (are_placed n.rests.items.items n.sounding.items) (all_placed ns) k).1
    (omega (arith, low))

pub placed_by : (ns : List Notes)
    → ((c : ℕ) → c < length ns → (d : Notes) → are_placed (get_or ns c d).rests.items.items (get_or ns c d).sounding.items ≡ true)
    → all_placed ns ≡ true
placed_by [] h = refl
placed_by (n ∷ ns) h = and_from (are_placed n.rests.items.items n.sounding.items) (all_placed ns) (h zero (omega arith) n)
    (placed_by ns (λ c low. h (suc c) (omega (arith, low))))

-- a place beyond the last has nothing
pub placed_low : (ns : List Notes) (c : ℕ) (q : ℤ) → is_placed (get_or (map (λ n. n.rests.items.items) ns) c []) q ≡ true → c < length ns
placed_low [] c q h = absurd cc
placed_low (n ∷ ns) zero q h = omega arith
placed_low (n ∷ ns) (suc c) q h = (let low = placed_low ns c q h in omega (arith, low))

-- what one part has, in the list of all
pub set_here : {B : Type 0} (f : Notes → B) (ns : List Notes) (p : ℕ) (y : Notes) (e : B) → p < length ns → get_or (map f (set ns p y)) p e ≡ f y
set_here f ns p y e low = ap (λ l. get_or l p e) (map-set f ns p y)
    ∙ get_or-set_same (map f ns) p (f y) e (let long = length-map ns f in omega (arith, low, long))

pub set_there : {B : Type 0} (f : Notes → B) (ns : List Notes) (p c : ℕ) (y : Notes) (e : B) → c ≢ p
    → get_or (map f (set ns p y)) c e ≡ get_or (map f ns) c e
set_there f ns p c y e apart = ap (λ l. get_or l c e) (map-set f ns p y) ∙ get_or-set_other (map f ns) p c (f y) e apart

pub placed_set : (ns : List Notes) (p : ℕ) (y : Notes) → p < length ns → all_placed ns ≡ true
    → are_placed y.rests.items.items y.sounding.items ≡ true → all_placed (set ns p y) ≡ true
placed_set ns p y low k own = placed_by (set ns p y) (λ c long d. elim (eqb_tells c p) [
  | inl t ↦ ap (λ n. are_placed n.rests.items.items n.sounding.items) (ap (λ i. get_or (set ns p y) i d) t.1 ∙ get_or-set_same ns p y d low) ∙ own
  | inr t ↦ ap (λ n. are_placed n.rests.items.items n.sounding.items) (get_or-set_other ns p c y d t.1)
      ∙ placed_at ns c d k (let size = length-set ns p y in omega (arith, long, size))
])

-- ---- one part after the other

-- The parts below a place have become what they should, and the others are as they were.
pub record Done (Becomes : ℕ → Notes → Notes → Type 0) (place : ℕ) (old now : List Notes) : Type 0 where
  pub long : length now ≡ 16
  pub done : (c : ℕ) → c < place → (d : Notes) → Becomes c (get_or old c d) (get_or now c d)
  pub left : (c : ℕ) → place ≤ c → (d : Notes) → get_or now c d ≡ get_or old c d

pub none_done : (Becomes : ℕ → Notes → Notes → Type 0) (old : List Notes) → length old ≡ 16 → Done Becomes 0 old old
none_done Becomes old long = record { long = long; done = λ c low d. absurd (omega (arith, low)); left = λ c le d. refl }

pub one_done : (Becomes : ℕ → Notes → Notes → Type 0) (p : ℕ) (old now : List Notes) (x y : Notes) → p < 16 → Done Becomes p old now
    → Becomes p (get_or now p x) y → Done Becomes (p + 1) old (set now p y)
one_done Becomes p old now x y low so it = record {
  long = length-set now p y ∙ so.long;
  done = λ c below d. elim (eqb_tells c p) [
    | inl t ↦ (let here : get_or (set now p y) p d ≡ y = get_or-set_same now p y d within in
        let was : get_or now p x ≡ get_or old p d = get_or_default now p x d within ∙ so.left p (omega arith) d in
        subst (λ i. Becomes i (get_or old i d) (get_or (set now p y) i d)) (sym t.1)
        (subst (Becomes p (get_or old p d)) (sym here) (subst (λ o. Becomes p o y) was it)))
    | inr t ↦ (let ne = t.1 in subst (Becomes c (get_or old c d)) (sym (get_or-set_other now p c y d t.1)) (so.done c (omega (arith, below, ne)) d))
  ];
  left = λ c le d. get_or-set_other now p c y d (λ e. omega (arith, le, e)) ∙ so.left c (omega (arith, le)) d;
}
  where
    within : p < length now
    within = (let long = so.long in omega (arith, low, long))

-- the part at a place is as it was
pub kept_left : (tail p : ℕ) (old now : List Notes) (Becomes : ℕ → Notes → Notes → Type 0) (x : Notes) → length old ≡ 16 → p < 16
    → (0 < tail → all_placed old ≡ true)
    → Done Becomes p old now → IsPartKept tail (get_or now p x)
kept_left tail p old now Becomes x long low k so = λ some.
    ap (λ n. are_placed n.rests.items.items n.sounding.items) (so.left p (omega arith) x) ∙ placed_at old p x (k some) (omega (arith, low, long))

-- some rest of one part ran out
pub one_forgets : (tick tail p : ℕ) (old now : List Notes) (x y : Notes) → length now ≡ 16 → p < 16
    → ((c : ℕ) → c < 16 → (d : Notes) → PartForgets tick tail (get_or old c d) (get_or now c d)) → PartForgets tick tail (get_or now p x) y
    → (c : ℕ) → c < 16 → (d : Notes) → PartForgets tick tail (get_or old c d) (get_or (set now p y) c d)
one_forgets tick tail p old now x y long low so it c cl d = elim (eqb_tells c p) [
  | inl t ↦ (let here : get_or (set now p y) p d ≡ y = get_or-set_same now p y d (omega (arith, low, long)) in
      let was : get_or now p x ≡ get_or now p d = get_or_default now p x d (omega (arith, low, long)) in
      subst (λ i. PartForgets tick tail (get_or old i d) (get_or (set now p y) i d)) (sym t.1)
      (subst (PartForgets tick tail (get_or old p d)) (sym here)
      (both_forget tick tail (get_or old p d) (get_or now p d) y (so p low d) (subst (λ o. PartForgets tick tail o y) was it))))
  | inr t ↦ subst (PartForgets tick tail (get_or old c d)) (sym (get_or-set_other now p c y d t.1)) (so c cl d)
]

-- ---- what becomes of a port

pub part_lists : (port : Port) (c : ℕ) (d : Notes) (at : ℕ → Bool) → length port.parts ≡ 16 → c < 16
    → ListsSounding (struck_in port c) (listed_in port c) at
    → ListsSounding (get_or port.parts c d).struck (get_or port.parts c d).sounding.items at
part_lists port c d at long low l =
    subst (λ ss. ListsSounding ss (get_or port.parts c d).sounding.items at) (get_or-map (λ n. n.struck) port.parts c d [] (omega (arith, low, long)))
    (subst (λ xs. ListsSounding (struck_in port c) xs at) (get_or-map (λ n. n.sounding.items) port.parts c d [] (omega (arith, low, long))) l)

pub port_lists : (port : Port) (c : ℕ) (d : Notes) (at : ℕ → Bool) → length port.parts ≡ 16 → c < 16
    → ListsSounding (get_or port.parts c d).struck (get_or port.parts c d).sounding.items at → ListsSounding (struck_in port c) (listed_in port c) at
port_lists port c d at long low l =
    subst (λ ss. ListsSounding ss (listed_in port c) at) (sym (get_or-map (λ n. n.struck) port.parts c d [] (omega (arith, low, long))))
    (subst (λ xs. ListsSounding (get_or port.parts c d).struck xs at)
    (sym (get_or-map (λ n. n.sounding.items) port.parts c d [] (omega (arith, low, long)))) l)

pub part_struck : (port : Port) (c : ℕ) (d : Notes) → length port.parts ≡ 16 → c < 16 → struck_in port c ≡ (get_or port.parts c d).struck
part_struck port c d long low = get_or-map (λ n. n.struck) port.parts c d [] (omega (arith, low, long))

pub part_listed : (port : Port) (c : ℕ) (d : Notes) → length port.parts ≡ 16 → c < 16 → listed_in port c ≡ (get_or port.parts c d).sounding.items
part_listed port c d long low = get_or-map (λ n. n.sounding.items) port.parts c d [] (omega (arith, low, long))

pub part_rests : (port : Port) (c : ℕ) (d : Notes) → length port.parts ≡ 16 → c < 16 → rests_in port c ≡ (get_or port.parts c d).rests.items.items
part_rests port c d long low = get_or-map (λ n. n.rests.items.items) port.parts c d [] (omega (arith, low, long))

-- ends
module _ (r : Bool) (w : ℕ → ℕ → Bool) (tick tail : ℕ) (old new : Port) (lo : length old.parts ≡ 16) (ln : length new.parts ≡ 16)
    (ends : EachPart (λ c. PartEnds r (w c) tick tail) old new) where
  d : Notes
  d = first old.parts (omega (arith, lo))

  pub ended_struck : (c : ℕ) → c < 16 → struck_in new c ≡ struck_in old c
  ended_struck c low = part_struck new c d ln low ∙ ((ends c low d).struck ∙ sym (part_struck old c d lo low))

  pub ended_listed : (at : ℕ → ℕ → Bool) → ListsAll old at → ListsAll new (λ c k. not r && (at c k && not (w c k)))
  ended_listed at l c low = port_lists new c d _ ln low ((ends c low d).listed (at c) (part_lists old c d (at c) lo low (l c low)))

  pub ended_rests : (at : ℕ → ℕ → Bool) → ListsAll old at → ((c k : ℕ) → c < 16 → k < 128 → w c k ≡ true → at c k ≡ true) → 0 < tail
      → (c : ℕ) (q : ℤ) → c < 16
      → end_kept (rests_in new c) q ≡ cond r None
      (cond (any_key (λ k. w c k && int_eq (entry_at (struck_in old c) k).steps q) 128) (Some tick) (end_kept (rests_in old c) q))
  ended_rests at l sub some c q low =
      ap (λ rs. end_kept rs q) (part_rests new c d ln low)
      ∙ (ends c low d).rests (at c) (part_lists old c d (at c) lo low (l c low)) (λ k below. sub c k low below) some q
      ∙ ap (λ ss. cond r None (cond (any_key (λ k. w c k && int_eq (entry_at ss k).steps q) 128) (Some tick)
      (end_kept (get_or old.parts c d).rests.items.items q))) (sym (part_struck old c d lo low))
      ∙ ap (λ rs. cond r None (cond (any_key (λ k. w c k && int_eq (entry_at (struck_in old c) k).steps q) 128) (Some tick) (end_kept rs q)))
      (sym (part_rests old c d lo low))

  pub ended_still : tail ≡ 0 → (c : ℕ) (q : ℤ) → c < 16 → IsKeptOrLost (end_kept (rests_in old c) q) (end_kept (rests_in new c) q)
  ended_still unkept c q low =
      subst (λ rs. IsKeptOrLost (end_kept rs q) (end_kept (rests_in new c) q)) (sym (part_rests old c d lo low))
      (subst (λ rs. IsKeptOrLost (end_kept (get_or old.parts c d).rests.items.items q) (end_kept rs q)) (sym (part_rests new c d ln low))
      ((ends c low d).still unkept q))

  pub ended_kept : IsKept tail old → IsKept tail new
  ended_kept k some = placed_by new.parts (λ c low e.
      (ends c (omega (arith, low, ln)) e).kept (λ s. placed_at old.parts c e (k some) (omega (arith, low, ln, lo))) some)

  pub ended_place : (strike : Option Strike) → (r ≡ true → strike ≡ None) → HasPlace tail old strike → HasPlace tail new strike
  ended_place None alone h = λ some. refl
  ended_place (Some s) alone h = λ some.
      (let q : ℤ = (entry_of s.key s.target).steps in
      let within : s.channel < length old.parts = placed_low old.parts s.channel q (h some) in
      let low : s.channel < 16 = omega (arith, within, lo) in
      let was : is_placed (get_or old.parts s.channel d).rests.items.items q
      ≡ true = ap (λ rs. is_placed rs q) (sym (part_rests old s.channel d lo low)) ∙ h some in
      ap (λ rs. is_placed rs q) (part_rests new s.channel d ln low)
      ∙ placed_of (get_or new.parts s.channel d).rests.items.items q
      ((ends s.channel low d).placed (no_reset r refl) q (admitted_of (get_or old.parts s.channel d).rests.items.items q was)))
    where
      no_reset : (b : Bool) → r ≡ b → r ≡ false
      no_reset true e = (let wrong : Some s ≡ None = alone e in absurd cc)
      no_reset false e = e

-- rests that run out
module _ (tick tail : ℕ) (old new : Port) (lo : length old.parts ≡ 16) (ln : length new.parts ≡ 16)
    (forgets : EachPart (λ c. PartForgets tick tail) old new) where
  e : Notes
  e = first old.parts (omega (arith, lo))

  pub forgotten_struck : (c : ℕ) → c < 16 → struck_in new c ≡ struck_in old c
  forgotten_struck c low = part_struck new c e ln low ∙ ((forgets c low e).struck ∙ sym (part_struck old c e lo low))

  pub forgotten_listed : (c : ℕ) → c < 16 → listed_in new c ≡ listed_in old c
  forgotten_listed c low = part_listed new c e ln low ∙ ((forgets c low e).listed ∙ sym (part_listed old c e lo low))

  pub forgotten_rests : (c : ℕ) (q : ℤ) (t : ℕ) → c < 16 → tick ≤ t
      → is_within_tail tail t (end_kept (rests_in new c) q) ≡ is_within_tail tail t (end_kept (rests_in old c) q)
  forgotten_rests c q t low le =
      ap (λ rs. is_within_tail tail t (end_kept rs q)) (part_rests new c e ln low)
      ∙ ((forgets c low e).rests q t le ∙ ap (λ rs. is_within_tail tail t (end_kept rs q)) (sym (part_rests old c e lo low)))

  pub forgotten_still : (c : ℕ) (q : ℤ) → c < 16 → IsKeptOrLost (end_kept (rests_in old c) q) (end_kept (rests_in new c) q)
  forgotten_still c q low =
      subst (λ rs. IsKeptOrLost (end_kept rs q) (end_kept (rests_in new c) q)) (sym (part_rests old c e lo low))
      (subst (λ rs. IsKeptOrLost (end_kept (get_or old.parts c e).rests.items.items q) (end_kept rs q)) (sym (part_rests new c e ln low))
      ((forgets c low e).still q))

  pub forgotten_kept : (z : ℕ) → IsKept z old → IsKept z new
  forgotten_kept z k some = placed_by new.parts (λ c low d.
      (forgets c (omega (arith, low, ln)) d).kept z (λ s. placed_at old.parts c d (k some) (omega (arith, low, ln, lo))) some)

-- notes of one part alone end
pub ends_alone : (which : ℕ → ℕ → Bool) (tick tail p : ℕ) (ns : List Notes) (x y : Notes) → p < length ns
    → ((c k : ℕ) → c < 16 → k < 128 → c ≢ p → which c k ≡ false)
    → PartEnds false (which p) tick tail (get_or ns p x) y
    → (c : ℕ) → c < 16 → (d : Notes) → PartEnds false (which c) tick tail (get_or ns c d) (get_or (set ns p y) c d)
ends_alone which tick tail p ns x y low none ends c cl d = elim (eqb_tells c p) [
  | inl t ↦ subst (λ i. PartEnds false (which i) tick tail (get_or ns i d) (get_or (set ns p y) i d)) (sym t.1)
      (subst (λ o. PartEnds false (which p) tick tail o (get_or (set ns p y) p d)) (get_or_default ns p x d low)
      (subst (λ n. PartEnds false (which p) tick tail (get_or ns p x) n) (sym (get_or-set_same ns p y d low)) ends))
  | inr t ↦ subst (λ n. PartEnds false (which c) tick tail (get_or ns c d) n) (sym (get_or-set_other ns p c y d t.1))
      (none_ends (which c) tick tail (get_or ns c d) (λ k kl. none c k cl kl t.1))
]
