-- What ends on the keys of one part, one key after the other.
use Rattle.std.proofs.Common.{◌≡◌, ◌<◌, ◌≤◌, ◌∙◌, ◌+◌, ℕ, zero, suc, ℤ, List, [], Bool, true, false, cond, not, ◌&&◌, ◌||◌, nat_eq, nat_lt, if◌then◌else◌, Option, Some, None, refl, sym, ap, arith, inl, inr}
use Rattle.std.proofs.lemmas.Bool.{and_from, or_left, or_right, eq-eqb, le-ltb, true≢false}
use Rattle.std.proofs.lemmas.Bool.Decides.{eqb_tells}
use Rattle.retune_model.specs.Faults.{int_eq}
use Rattle.retune_model.specs.Rests.{is_within_tail}
use Rattle.lifetimes.specs.declared.notes.Notes.{Notes}
use Rattle.lifetimes.specs.declared.notes.Sounding.{Sounding}
use Rattle.lifetimes.specs.declared.notes.Struck.{Struck}
use Rattle.lifetimes.specs.declared.rests.Rest.{Rest}
use Rattle.lifetimes.specs.Lists.{ListsSounding, any_key, entry_at, has_steps}
use Rattle.lifetimes.specs.Resting.{IsAdmitted, end_kept, is_end_at, without_end}
use Rattle.lifetimes.specs.OnePart.{IsKeptOrLost, PartEnds, PartForgets, are_placed}
use Rattle.lifetimes.proofs.Kept.{int_eq_tells}
use Rattle.lifetimes.proofs.KeysAndNotes.{any_key_same}
use Rattle.lifetimes.proofs.Placed.{stay_placed, none_listed}

-- the same list, whatever tells which keys sound
pub relisted : (ss : List Struck) (xs : List Sounding) (at to : ℕ → Bool) → ListsSounding ss xs at → ((k : ℕ) → k < 128 → at k ≡ to k)
    → ListsSounding ss xs to
relisted ss xs at to l e = record { own = l.own; listed = λ k low. l.listed k low ∙ e k low }

-- ---- some key

any_none : (f s : ℕ → Bool) (n : ℕ) → ((k : ℕ) → k < n → f k ≡ false) → any_key (λ k. f k && s k) n ≡ false
any_none f s zero h = refl
any_none f s (suc n) h = ap (λ b. (b && s n) || any_key (λ k. f k && s k) n) (h n (omega arith)) ∙ any_none f s n (λ k low. h k (omega (arith, low)))

any_one : (s : ℕ → Bool) (key n : ℕ) → key < n → any_key (λ k. nat_eq k key && s k) n ≡ s key
any_one s key zero low = absurd (omega (arith, low))
any_one s key (suc n) low = elim (eqb_tells n key) [
  | inl t ↦ (let none : any_key (λ k. nat_eq k key && s k) n ≡ false = any_none (λ k. nat_eq k key) s n (λ k below. apart k below t.1) in
      ap (λ b. (b && s n) || any_key (λ k. nat_eq k key && s k) n) t.0 ∙ (ap (λ b. s n || b) none ∙ (or_false (s n) ∙ ap s t.1)))
  | inr t ↦ (let ne = t.1 in ap (λ b. (b && s n) || any_key (λ k. nat_eq k key && s k) n) t.0 ∙ any_one s key n (omega (arith, low, ne)))
]
  where
    or_false : (b : Bool) → (b || false) ≡ b
    or_false true = refl
    or_false false = refl

    apart : (k : ℕ) → k < n → n ≡ key → nat_eq k key ≡ false
    apart k below e = elim (eqb_tells k key) [
      | inl t ↦ (let same = t.1 in absurd (omega (arith, below, e, same)))
      | inr t ↦ t.0
    ]

any_or : (f g s : ℕ → Bool) (n : ℕ) → any_key (λ k. (f k || g k) && s k) n ≡ (any_key (λ k. g k && s k) n || any_key (λ k. f k && s k) n)
any_or f g s zero = refl
any_or f g s (suc n) =
    ap (λ b. ((f n || g n) && s n) || b) (any_or f g s n) ∙ pick (f n) (g n) (s n) (any_key (λ k. g k && s k) n) (any_key (λ k. f k && s k) n)
  where
    pick : (a b c x y : Bool) → (((a || b) && c) || (x || y)) ≡ (((b && c) || x) || ((a && c) || y))
    pick false false c x y = refl
    pick true false false x y = refl
    pick false true false x y = refl
    pick true true false x y = refl
    pick false true true x y = refl
    pick true true true x y = refl
    pick true false true true y = refl
    pick true false true false y = refl

-- ---- the keys of a part

-- none ends yet
pub none_ends : (f : ℕ → Bool) (tick tail : ℕ) (n : Notes) → ((k : ℕ) → k < 128 → f k ≡ false) → PartEnds false f tick tail n n
none_ends f tick tail n none = record {
  struck = refl;
  listed = λ at l. relisted n.struck n.sounding.items at _ l (λ k low. sym (ap (λ b. at k && not b) (none k low) ∙ and_true (at k)));
  rests = λ at l w some q. sym (ap (λ b. cond b (Some tick) (end_kept n.rests.items.items q))
      (any_none f (λ k. int_eq (entry_at n.struck k).steps q) 128 none));
  still = λ no q. inr refl;
  placed = λ r q a. a;
  kept = λ k. k;
}
  where
    and_true : (b : Bool) → (b && true) ≡ b
    and_true true = refl
    and_true false = refl

-- the keys are told in another way
pub same_end : (r : Bool) (f g : ℕ → Bool) (tick tail : ℕ) (old new : Notes) → ((k : ℕ) → k < 128 → f k ≡ g k)
    → PartEnds r f tick tail old new → PartEnds r g tick tail old new
same_end r f g tick tail old new e p = record {
  struck = p.struck;
  listed = λ at l. relisted new.struck new.sounding.items _ _ (p.listed at l) (λ k low. ap (λ b. not r && (at k && not b)) (e k low));
  rests = λ at l w some q.
      p.rests at l (λ k low t. w k low (sym (e k low) ∙ t)) some q
      ∙ ap (λ b. cond r None (cond b (Some tick) (end_kept old.rests.items.items q)))
      (any_key_same (λ k. f k && int_eq (entry_at old.struck k).steps q) (λ k. g k && int_eq (entry_at old.struck k).steps q) 128
      (λ k low. ap (λ b. b && int_eq (entry_at old.struck k).steps q) (e k low)));
  still = p.still;
  placed = p.placed;
  kept = p.kept;
}

pub then_still : {a b c : Option ℕ} → IsKeptOrLost a b → IsKeptOrLost b c → IsKeptOrLost a c
then_still h (inl e) = inl e
then_still (inl d) (inr e) = inl (e ∙ d)
then_still (inr d) (inr e) = inr (e ∙ d)

-- more keys
pub both_end : (f g : ℕ → Bool) (tick tail : ℕ) (old mid new : Notes) → ((k : ℕ) → g k ≡ true → f k ≡ false)
    → PartEnds false f tick tail old mid → PartEnds false g tick tail mid new → PartEnds false (λ k. f k || g k) tick tail old new
both_end f g tick tail old mid new apart a b = record {
  struck = b.struck ∙ a.struck;
  listed = λ at l. relisted new.struck new.sounding.items _ _ (b.listed (λ k. at k && not (f k)) (a.listed at l))
      (λ k low. neither (at k) (f k) (g k));
  rests = λ at l w some q.
      (let s : ℕ → Bool = λ k. int_eq (entry_at old.struck k).steps q in
      b.rests (λ k. at k && not (f k)) (a.listed at l)
      (λ k low t. and_from (at k) (not (f k)) (w k low (or_right (f k) (g k) t)) (ap not (apart k t))) some q
      ∙ ap (λ ss. cond (any_key (λ k. g k && int_eq (entry_at ss k).steps q) 128) (Some tick) (end_kept mid.rests.items.items q)) a.struck
      ∙ ap (cond (any_key (λ k. g k && s k) 128) (Some tick)) (a.rests at l (λ k low t. w k low (or_left (f k) (g k) t)) some q)
      ∙ first (any_key (λ k. g k && s k) 128) (any_key (λ k. f k && s k) 128) (end_kept old.rests.items.items q)
      ∙ ap (λ c. cond c (Some tick) (end_kept old.rests.items.items q)) (sym (any_or f g s 128)));
  still = λ no q. then_still (a.still no q) (b.still no q);
  placed = λ r q x. b.placed r q (a.placed r q x);
  kept = λ k. b.kept (a.kept k);
}
  where
    neither : (x y z : Bool) → ((x && not y) && not z) ≡ (x && not (y || z))
    neither false y z = refl
    neither true true z = refl
    neither true false z = refl

    first : (x y : Bool) (o : Option ℕ) → cond x (Some tick) (cond y (Some tick) o) ≡ cond (x || y) (Some tick) o
    first true y o = refl
    first false y o = refl

-- one key
pub one_ends : (old new : Notes) (key tick tail : ℕ) → key < 128 → new.struck ≡ old.struck
    → ((at : ℕ → Bool) → ListsSounding old.struck old.sounding.items at
    → ListsSounding new.struck new.sounding.items (λ k. if nat_eq k key then false else at k))
    → ((q : ℤ) → has_steps new.sounding.items q ≡ true → has_steps old.sounding.items q ≡ true)
    → ((at : ℕ → Bool) → ListsSounding old.struck old.sounding.items at → at key ≡ true → 0 < tail → (q : ℤ)
    → end_kept new.rests.items.items q ≡ (if int_eq (entry_at old.struck key).steps q then Some tick else end_kept old.rests.items.items q))
    → (tail ≡ 0 → (q : ℤ) → end_kept new.rests.items.items q ≡ end_kept old.rests.items.items q)
    → ((q : ℤ) → IsAdmitted old.rests.items.items q → IsAdmitted new.rests.items.items q)
    → PartEnds false (λ k. nat_eq k key) tick tail old new
one_ends old new key tick tail within struck listed pairs rests still placed = record {
  struck = struck;
  listed = λ at l. relisted new.struck new.sounding.items _ _ (listed at l) (λ k low. without (nat_eq k key) (at k));
  rests = λ at l w some q.
      rests at l (w key within (eq-eqb key key refl)) some q
      ∙ ap (λ b. cond b (Some tick) (end_kept old.rests.items.items q)) (sym (any_one (λ k. int_eq (entry_at old.struck k).steps q) key 128 within));
  still = λ no q. inr (still no q);
  placed = λ r. placed;
  kept = λ k some. stay_placed old.rests.items.items new.rests.items.items old.sounding.items new.sounding.items pairs (λ q h. placed q) (k some);
}
  where
    without : (x y : Bool) → cond x false y ≡ (y && not x)
    without true true = refl
    without true false = refl
    without false true = refl
    without false false = refl

-- a reset
pub all_end : (which : ℕ → Bool) (tick tail : ℕ) (old new : Notes) → new.struck ≡ old.struck
    → ListsSounding new.struck new.sounding.items (λ k. false) → new.rests.items.items ≡ [] → PartEnds true which tick tail old new
all_end which tick tail old new struck listed rests = record {
  struck = struck;
  listed = λ at l. listed;
  rests = λ at l w some q. ap (λ rs. end_kept rs q) rests;
  still = λ no q. inl (ap (λ rs. end_kept rs q) rests);
  placed = λ r. absurd (true≢false r);
  kept = λ k some. ap (are_placed new.rests.items.items) (none_listed new.struck new.sounding.items listed);
}

-- ---- rests that run out

abbrev OneForgotten : ℤ → ℕ → List Rest → List Rest → Type 0
OneForgotten steps end rs ss = (q : ℤ) → end_kept ss q ≡ without_end steps end q (end_kept rs q)

pub one_forgotten : (steps : ℤ) (end tick tail : ℕ) (old new : Notes) → end + tail ≤ tick → new.struck ≡ old.struck
    → new.sounding.items ≡ old.sounding.items
    → has_steps old.sounding.items steps ≡ false → OneForgotten steps end old.rests.items.items new.rests.items.items
    → ((q : ℤ) → int_eq steps q ≡ false → IsAdmitted old.rests.items.items q → IsAdmitted new.rests.items.items q)
    → PartForgets tick tail old new
one_forgotten steps end tick tail old new over struck listed silent ends placed = record {
  struck = struck;
  listed = listed;
  rests = λ q t le. ap (is_within_tail tail t) (ends q) ∙ past (int_eq steps q) (end_kept old.rests.items.items q) t le;
  still = λ q. lost (int_eq steps q) (end_kept old.rests.items.items q) (ends q);
  kept = λ z k some. stay_placed old.rests.items.items new.rests.items.items old.sounding.items new.sounding.items
      (λ q h. ap (λ xs. has_steps xs q) (sym listed) ∙ h) (λ q h. placed q (other q h)) (k some);
}
  where
    other : (q : ℤ) → has_steps old.sounding.items q ≡ true → int_eq steps q ≡ false
    other q h = pick (int_eq steps q) refl
      where
        pick : (b : Bool) → int_eq steps q ≡ b → b ≡ false
        pick true is = absurd (true≢false (sym h ∙ (ap (has_steps old.sounding.items) (sym (int_eq_tells steps q is)) ∙ silent)))
        pick false is = refl

    over_now : (t : ℕ) → tick ≤ t → nat_lt t (end + tail) ≡ false
    over_now t le = le-ltb t (end + tail) (omega (arith, over, le))

    past : (b : Bool) (o : Option ℕ) (t : ℕ) → tick ≤ t → is_within_tail tail t (cond (b && is_end_at end o) None o) ≡ is_within_tail tail t o
    past false o t le = refl
    past true None t le = refl
    past true (Some e) t le = elim (eqb_tells e end) [
      | inl u ↦ ap (λ c. is_within_tail tail t (cond c None (Some e))) u.0 ∙ sym (ap (λ x. nat_lt t (x + tail)) u.1 ∙ over_now t le)
      | inr u ↦ ap (λ c. is_within_tail tail t (cond c None (Some e))) u.0
    ]

    lost : (b : Bool) (o : Option ℕ) {p : Option ℕ} → p ≡ cond (b && is_end_at end o) None o → IsKeptOrLost o p
    lost b o e = gone (b && is_end_at end o) o e
      where
        gone : (c : Bool) (o : Option ℕ) {p : Option ℕ} → p ≡ cond c None o → IsKeptOrLost o p
        gone true o e = inl e
        gone false o e = inr e

pub none_forgotten : (tick tail : ℕ) (n : Notes) → PartForgets tick tail n n
none_forgotten tick tail n = record { struck = refl; listed = refl; rests = λ q t le. refl; still = λ q. inr refl; kept = λ z k. k }

pub both_forget : (tick tail : ℕ) (old mid new : Notes) → PartForgets tick tail old mid → PartForgets tick tail mid new
    → PartForgets tick tail old new
both_forget tick tail old mid new a b = record {
  struck = b.struck ∙ a.struck;
  listed = b.listed ∙ a.listed;
  rests = λ q t le. b.rests q t le ∙ a.rests q t le;
  still = λ q. then_still (a.still q) (b.still q);
  kept = λ z k. b.kept z (a.kept z k);
}
