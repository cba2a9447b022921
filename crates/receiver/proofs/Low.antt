-- Bytes of seven bits.
use Rattle.std.proofs.Common.{◌≡◌, ℕ, zero, suc, ◌<◌, ◌≤◌, if◌then◌else◌, length, replicate, slice_index, List, [], ◌∷◌, Bool, true, false, cond, ◌&&◌, ◌||◌, ◌+◌, nat_eq, nat_lt, get_or, set, refl, ap, ◌∙◌, arith}
use Rattle.std.specs.List.{AllByRecursion}
use Rattle.std.proofs.lemmas.Bool.{ltb-true, lt-ltb, eqb-true}
use Rattle.midi_model.specs.Params.{Parameter, Entry, rank, value_of, put, rpn, counts}
use Rattle.midi_model.specs.WellFormed.{is_stored, is_settable, AreEntered}
use Rattle.receiver.specs.Kept.{is_low_value, is_entered, is_other, are_others, are_low, are_low_pairs, only_stored}
use Rattle.receiver.specs.Notes.{has}
use Rattle.receiver.specs.State.{params_of}
use Rattle.receiver.proofs.Tidy.{left, right, both, each_put, entered_from}

either_left : (x y : Bool) → x ≡ true → (x || y) ≡ true
either_left true y h = refl
either_left false y h = absurd cc

other : (x y : Bool) → x ≡ false → (x || y) ≡ true → y ≡ true
other true y h k = absurd cc
other false y h k = k

pub low_set : (xs : List ℕ) (i v : ℕ) → v ≤ 127 → are_low xs ≡ true → are_low (set xs i v) ≡ true
low_set [] i v h a = refl
low_set (x ∷ xs) zero v h a = both (nat_lt v 128) (are_low xs) (lt-ltb v 128 (omega (arith, h))) (right (nat_lt x 128) (are_low xs) a)
low_set (x ∷ xs) (suc i) v h a = both (nat_lt x 128) (are_low (set xs i v)) (left (nat_lt x 128) (are_low xs) a) (low_set xs i v h (right (nat_lt x 128) (are_low xs) a))

at_zero : (n : ℕ) (b : Bool) → is_stored (n + 0) ≡ b → is_stored n ≡ b
at_zero n b h = let e : n ≡ n + 0 = omega arith in ap is_stored e ∙ h

from_zero : (i : ℕ) (b : Bool) → is_stored i ≡ b → is_stored (0 + i) ≡ b
from_zero i b h = let e : 0 + i ≡ i = omega arith in ap is_stored e ∙ h

one_on : (n i : ℕ) (b : Bool) → is_stored (n + suc i) ≡ b → is_stored (suc n + i) ≡ b
one_on n i b h = let e : suc n + i ≡ n + suc i = omega arith in ap is_stored e ∙ h

-- a controller that a channel keeps gets a value: all others stay as they are
stored_set : (xs : List ℕ) (n i v : ℕ) → is_stored (n + i) ≡ true → only_stored n xs ≡ true → only_stored n (set xs i v) ≡ true
stored_set [] n i v h a = refl
stored_set (x ∷ xs) n zero v h a =
    both (is_stored n || nat_eq v 0) (only_stored (suc n) xs) (either_left (is_stored n) (nat_eq v 0) (at_zero n true h)) (right (is_stored n || nat_eq x 0) (only_stored (suc n) xs) a)
stored_set (x ∷ xs) n (suc i) v h a =
    both (is_stored n || nat_eq x 0) (only_stored (suc n) (set xs i v)) (left (is_stored n || nat_eq x 0) (only_stored (suc n) xs) a)
    (stored_set xs (suc n) i v (one_on n i true h) (right (is_stored n || nat_eq x 0) (only_stored (suc n) xs) a))

-- a controller that a channel keeps no value of is 0
stored_at : (xs : List ℕ) (n i : ℕ) → is_stored (n + i) ≡ false → only_stored n xs ≡ true → get_or xs i 0 ≡ 0
stored_at [] n i h a = refl
stored_at (x ∷ xs) n zero h a = eqb-true x 0 (other (is_stored n) (nat_eq x 0) (at_zero n false h) (left (is_stored n || nat_eq x 0) (only_stored (suc n) xs) a))
stored_at (x ∷ xs) n (suc i) h a = stored_at xs (suc n) i (one_on n i false h) (right (is_stored n || nat_eq x 0) (only_stored (suc n) xs) a)

-- the same for a table of all controllers
pub all_stored : (xs : List ℕ) (i v : ℕ) → is_stored i ≡ true → only_stored 0 xs ≡ true → only_stored 0 (set xs i v) ≡ true
all_stored xs i v h a = stored_set xs 0 i v (from_zero i true h) a

pub unstored_zero : (xs : List ℕ) (i : ℕ) → is_stored i ≡ false → only_stored 0 xs ≡ true → get_or xs i 0 ≡ 0
unstored_zero xs i h a = stored_at xs 0 i (from_zero i false h) a

pub low_at : (xs : List ℕ) (i : ℕ) → are_low xs ≡ true → get_or xs i 0 ≤ 127
low_at [] i a = omega arith
low_at (x ∷ xs) zero a = let h = ltb-true x 128 (left (nat_lt x 128) (are_low xs) a) in omega (arith, h)
low_at (x ∷ xs) (suc i) a = low_at xs i (right (nat_lt x 128) (are_low xs) a)

pub low_from : (xs : List ℕ) → ((k : ℕ) → k < length xs → slice_index xs k ≤ 127) → are_low xs ≡ true
low_from [] h = refl
low_from (x ∷ xs) h =
    let one = h 0 (omega arith) in
    both (nat_lt x 128) (are_low xs) (lt-ltb x 128 (omega (arith, one))) (low_from xs (λ k below. h (suc k) (omega (arith, below))))

-- zeros among them
pub zero_of : (n k : ℕ) → slice_index (replicate n 0) k ≡ 0
zero_of zero k = refl
zero_of (suc n) zero = refl
zero_of (suc n) (suc k) = zero_of n k

-- entries that go back to a default of 0
pub over_zero : (which : ℕ) (base old new : List ℕ) → base ≡ replicate 128 0
    → ((k : ℕ) → k < 128 → slice_index new k ≡ (if has which k then slice_index base k else slice_index old k))
    → (k : ℕ) → k < 128 → slice_index new k ≡ (if has which k then 0 else slice_index old k)
over_zero which base old new e h k below = h k below ∙ ap (λ d. if has which k then d else slice_index old k) (ap (λ ds. slice_index ds k) e ∙ zero_of 128 k)

pub relaxed : (which : ℕ) (old new : List ℕ) → length new ≡ 128
    → ((k : ℕ) → k < 128 → slice_index new k ≡ (if has which k then 0 else slice_index old k)) → are_low old ≡ true → are_low new ≡ true
relaxed which old new full h a = low_from new (λ k below. pick (has which k) (slice_index new k) (slice_index old k) (h k (omega (arith, full, below))) (low_at old k a))
  where
    pick : (b : Bool) (x y : ℕ) → x ≡ (if b then 0 else y) → y ≤ 127 → x ≤ 127
    pick true x y e l = omega (arith, e)
    pick false x y e l = omega (arith, e, l)

abbrev pub is_low_pair : ℕ × ℕ → Bool
is_low_pair p = nat_lt p.0 128 && nat_lt p.1 128

pub pair_set : (ps : List (ℕ × ℕ)) (i : ℕ) (v : ℕ × ℕ) → v.0 ≤ 127 → v.1 ≤ 127 → are_low_pairs ps ≡ true → are_low_pairs (set ps i v) ≡ true
pair_set [] i v h k a = refl
pair_set (p ∷ ps) zero v h k a = both (is_low_pair v) (are_low_pairs ps) (both (nat_lt v.0 128) (nat_lt v.1 128) (lt-ltb v.0 128 (omega (arith, h))) (lt-ltb v.1 128 (omega (arith, k)))) (right (is_low_pair p) (are_low_pairs ps) a)
pair_set (p ∷ ps) (suc i) v h k a = both (is_low_pair p) (are_low_pairs (set ps i v)) (left (is_low_pair p) (are_low_pairs ps) a) (pair_set ps i v h k (right (is_low_pair p) (are_low_pairs ps) a))

pair_at : (ps : List (ℕ × ℕ)) (i : ℕ) → are_low_pairs ps ≡ true → is_low_pair (get_or ps i (0, 0)) ≡ true
pair_at [] i a = refl
pair_at (p ∷ ps) zero a = left (is_low_pair p) (are_low_pairs ps) a
pair_at (p ∷ ps) (suc i) a = pair_at ps i (right (is_low_pair p) (are_low_pairs ps) a)

abbrev AreLow : List Entry → Type 0
AreLow es = AllByRecursion (λ e. is_low_value e ≡ true) es

others_low : (es : List Entry) → are_others es ≡ true → AreLow es
others_low [] h = tt
others_low (e ∷ es) h =
    let n = nat_lt e.parameter.high 128 && nat_lt e.parameter.low 128 in
    let one = left (is_other e) (are_others es) h in
    (right n (is_low_value e) (right (is_settable e.parameter) (n && is_low_value e) (right (counts e) (is_entered e) one)), others_low es (right (is_other e) (are_others es) h))

params_low : (fixed : List (ℕ × ℕ)) (es : List Entry) → are_low_pairs fixed ≡ true → are_others es ≡ true → AreLow (params_of fixed es)
params_low fixed es f o =
    let three = put (rpn 5) (get_or fixed 3 (0, 0)) es in
    let two = put (rpn 2) (get_or fixed 2 (0, 0)) three in
    let one = put (rpn 1) (get_or fixed 1 (0, 0)) two in
    each_put is_low_value (rpn 0) (get_or fixed 0 (0, 0)) one (pair_at fixed 0 f) (each_put is_low_value (rpn 1) (get_or fixed 1 (0, 0)) two (pair_at fixed 1 f)
    (each_put is_low_value (rpn 2) (get_or fixed 2 (0, 0)) three (pair_at fixed 2 f) (each_put is_low_value (rpn 5) (get_or fixed 3 (0, 0)) es (pair_at fixed 3 f) (others_low es o))))

default_low : (n : ℕ) → is_low_pair (cond (nat_eq n 0) (2, 0) (cond (nat_eq n 5) (0, 64) (64, 0))) ≡ true
default_low n = pick (nat_eq n 0) (nat_eq n 5)
  where
    pick : (b d : Bool) → is_low_pair (cond b (2, 0) (cond d (0, 64) (64, 0))) ≡ true
    pick true d = refl
    pick false true = refl
    pick false false = refl

value_in_low : (es : List Entry) (p : Parameter) → AreLow es → is_low_pair (value_of es p) ≡ true
value_in_low [] p a = default_low (rank p)
value_in_low (e ∷ es) p a = pick (nat_eq (rank e.parameter) (rank p)) (value_in_low es p a.1)
  where
    pick : (b : Bool) → is_low_pair (value_of es p) ≡ true → is_low_pair (cond b e.value (value_of es p)) ≡ true
    pick true h = a.0
    pick false h = h

low_by : (v : ℕ × ℕ) → is_low_pair v ≡ true → (v.0 ≤ 127) × (v.1 ≤ 127)
low_by v h =
    let a = ltb-true v.0 128 (left (nat_lt v.0 128) (nat_lt v.1 128) h) in
    let b = ltb-true v.1 128 (right (nat_lt v.0 128) (nat_lt v.1 128) h) in
    (omega (arith, a), omega (arith, b))

-- the value of a parameter
pub value_low : (fixed : List (ℕ × ℕ)) (es : List Entry) (p : Parameter) → are_low_pairs fixed ≡ true → are_others es ≡ true
    → ((value_of (params_of fixed es) p).0 ≤ 127) × ((value_of (params_of fixed es) p).1 ≤ 127)
value_low fixed es p f o = low_by (value_of (params_of fixed es) p) (value_in_low (params_of fixed es) p (params_low fixed es f o))

-- each parameter is one that data entry can make
others_entered : (es : List Entry) → are_others es ≡ true → AllByRecursion (λ e. is_entered e ≡ true) es
others_entered [] h = tt
others_entered (e ∷ es) h = (right (counts e) (is_entered e) (left (is_other e) (are_others es) h), others_entered es (right (is_other e) (are_others es) h))

entered_all : (es : List Entry) → AllByRecursion (λ e. is_entered e ≡ true) es → AreEntered es
entered_all [] h = tt
entered_all (e ∷ es) h = (entered_from e h.0, entered_all es h.1)

pub params_entered : (fixed : List (ℕ × ℕ)) (es : List Entry) → are_low_pairs fixed ≡ true → are_others es ≡ true → AreEntered (params_of fixed es)
params_entered fixed es f o =
    let three = put (rpn 5) (get_or fixed 3 (0, 0)) es in
    let two = put (rpn 2) (get_or fixed 2 (0, 0)) three in
    let one = put (rpn 1) (get_or fixed 1 (0, 0)) two in
    entered_all (params_of fixed es)
    (each_put is_entered (rpn 0) (get_or fixed 0 (0, 0)) one (pair_at fixed 0 f) (each_put is_entered (rpn 1) (get_or fixed 1 (0, 0)) two (pair_at fixed 1 f)
    (each_put is_entered (rpn 2) (get_or fixed 2 (0, 0)) three (pair_at fixed 2 f) (each_put is_entered (rpn 5) (get_or fixed 3 (0, 0)) es (pair_at fixed 3 f) (others_entered es o)))))
