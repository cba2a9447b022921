-- What is kept of runs, one after another.
use Rattle.std.proofs.Common.{◌≡◌, ◌≤◌, ◌<◌, ◌+◌, ◌++◌, ℕ, zero, suc, List, [], ◌∷◌, Bool, false, cond, Option, Some, None, length, map, set, get_or, take, drop, refl, sym, ap, ◌∙◌, arith, inl, inr}
use Rattle.std.specs.List.{AllByRecursion}
use Rattle.std.proofs.lemmas.Bool.{cases_lt, cases_eq}
use Rattle.std.proofs.lemmas.List.{length-map, length-append, get_or-map, map-set, at_drop_more, at_drop_all, get_or-set_same, get_or-set_other, get_or_append_left, get_or_push, get_or_past}
use Rattle.std.proofs.lemmas.List.Edits.{map_over_more}
use Rattle.midi_model.specs.Channel.{State}
use Rattle.retune_model.specs.Options.{Options}
use Rattle.retune_model.specs.Pairs.{Pair}
use Rattle.least_replay.specs.Found.{Seen, Slot, no_run, seen_at, slot_at, IsPut}
use Rattle.least_replay.specs.FoundView.{seen, all_seen, slot_of, slots_of, IsGoing}
use Rattle.least_replay.specs.Ending.{change, left_as, left_or, over_at, keep_run, keep_runs, end_run, end_runs, stay_if}
use Rattle.least_replay.specs.declared.found.Run.{Run}
use Rattle.least_replay.specs.declared.found.Going.{Going}

pub seen_there : (rs : List Run) (b : ℕ) (d : Run) → b < length rs → seen_at (all_seen rs) b ≡ seen (get_or rs b d)
seen_there rs b d l = get_or-map seen rs b d no_run l

changed_one : (f : Seen → Seen) (rs : List Run) (b : ℕ) (d y : Run) → b < length rs → seen y ≡ f (seen (get_or rs b d))
    → all_seen (set rs b y) ≡ change (all_seen rs) b f
changed_one f rs b d y l is = map-set seen rs b y ∙ ap (set (all_seen rs) b) (is ∙ ap f (sym (seen_there rs b d l)))

pub kept_one : (sounds : Pair → Bool) (needs : Pair → State) (rs : List Run) (x : Slot) (d y : Run) (v : State) → x.run < length rs
    → sounds x.pair ≡ false → v ≡ needs x.pair → seen y ≡ left_as v (seen (get_or rs x.run d))
    → all_seen (set rs x.run y) ≡ keep_run sounds needs (Some x) (all_seen rs)
kept_one sounds needs rs x d y v l silent needed is =
    changed_one (left_as (needs x.pair)) rs x.run d y l (is ∙ ap (λ u. left_as u (seen (get_or rs x.run d))) needed)
    ∙ sym (ap (λ b. cond b (all_seen rs) (change (all_seen rs) x.run (left_as (needs x.pair)))) silent)

pub ended_one : (holds : Pair → Bool) (leaves : Pair → Option State) (last resets : ℕ) (rs : List Run) (x : Slot) (d y : Run) → x.run < length rs
    → holds x.pair ≡ false → seen y ≡ over_at last resets (left_or (leaves x.pair) (seen (get_or rs x.run d)))
    → all_seen (set rs x.run y) ≡ end_run holds leaves last resets (Some x) (all_seen rs)
ended_one holds leaves last resets rs x d y l gone is =
    changed_one (λ r. over_at last resets (left_or (leaves x.pair) r)) rs x.run d y l is
    ∙ sym (ap (λ b. cond b (all_seen rs) (change (all_seen rs) x.run (λ r. over_at last resets (left_or (leaves x.pair) r)))) gone)

slot_there : (going : List (Option Going)) (i : ℕ) (d : Option Going) → i < length going → get_or (slots_of going) i None ≡ slot_of (get_or going i d)
slot_there going i d l = get_or-map slot_of going i d None l

-- one slot more of some
pub kept_step : (sounds : Pair → Bool) (needs : Pair → State) (going : List (Option Going)) (i : ℕ) (d : Option Going) (rs : List Seen)
    → i < length going
    → keep_runs sounds needs (drop i (slots_of going)) rs
    ≡ keep_runs sounds needs (drop (i + 1) (slots_of going)) (keep_run sounds needs (slot_of (get_or going i d)) rs)
kept_step sounds needs going i d rs l =
    at_drop_more (λ xs. keep_runs sounds needs xs rs) (slots_of going) i None (let m = length-map going slot_of in omega (arith, l, m))
    ∙ ap (λ x. keep_runs sounds needs (drop (i + 1) (slots_of going)) (keep_run sounds needs x rs)) (slot_there going i d l)

pub kept_all : (sounds : Pair → Bool) (needs : Pair → State) (going : List (Option Going)) (i : ℕ) (rs : List Seen) → length going ≤ i
    → keep_runs sounds needs (drop i (slots_of going)) rs ≡ rs
kept_all sounds needs going i rs l =
    at_drop_all (λ xs. keep_runs sounds needs xs rs) (slots_of going) i (let m = length-map going slot_of in omega (arith, l, m))

pub ended_step : (holds : Pair → Bool) (leaves : Pair → Option State) (last resets : ℕ) (going : List (Option Going)) (i : ℕ) (d : Option Going)
    (rs : List Seen) → i < length going
    → end_runs holds leaves last resets (drop i (slots_of going)) rs
    ≡ end_runs holds leaves last resets (drop (i + 1) (slots_of going)) (end_run holds leaves last resets (slot_of (get_or going i d)) rs)
ended_step holds leaves last resets going i d rs l =
    at_drop_more (λ xs. end_runs holds leaves last resets xs rs) (slots_of going) i None (let m = length-map going slot_of in omega (arith, l, m))
    ∙ ap (λ x. end_runs holds leaves last resets (drop (i + 1) (slots_of going)) (end_run holds leaves last resets x rs)) (slot_there going i d l)

pub ended_all : (holds : Pair → Bool) (leaves : Pair → Option State) (last resets : ℕ) (going : List (Option Going)) (i : ℕ) (rs : List Seen)
    → length going ≤ i → end_runs holds leaves last resets (drop i (slots_of going)) rs ≡ rs
ended_all holds leaves last resets going i rs l =
    at_drop_all (λ xs. end_runs holds leaves last resets xs rs) (slots_of going) i (let m = length-map going slot_of in omega (arith, l, m))

-- one slot more is cleared, or stays
get_same : {A : Type 0} (xs : List A) (j : ℕ) (x : A) → j < length xs → get_or xs j x ≡ get_or xs j (get_or xs j x)
get_same [] j x m = refl
get_same (y ∷ xs) zero x m = refl
get_same (y ∷ xs) (suc j) x m = get_same xs j x (omega (arith, m))

pub stay_step : (holds : Pair → Bool) (xs : List (Option Slot)) (going : List (Option Going)) (i : ℕ) (d y : Option Going) → i < length going
    → length going ≡ length xs → slots_of going ≡ map (stay_if holds) (take i xs) ++ drop i xs
    → slot_of y ≡ stay_if holds (slot_of (get_or going i d))
    → slots_of (set going i y) ≡ map (stay_if holds) (take (i + 1) xs) ++ drop (i + 1) xs
stay_step holds xs going i d y l same done is =
    map-set slot_of going i y
    ∙ ap (set (slots_of going) i) (is ∙ ap (stay_if holds) (sym (slot_there going i d l)))
    ∙ map_over_more (stay_if holds) xs (slots_of going) i (get_or (slots_of going) i None) (omega (arith, l, same)) done
    (let m = length-map going slot_of in get_same (slots_of going) i None (omega (arith, l, m)))

pub all_set : {A : Type 0} (P : A → Type 0) (xs : List A) (i : ℕ) (y : A) → P y → AllByRecursion P xs → AllByRecursion P (set xs i y)
all_set P [] i y p h = h
all_set P (x ∷ xs) zero y p h = (p, h.1)
all_set P (x ∷ xs) (suc i) y p h = (h.0, all_set P xs i y p h.1)

pub all_push : {A : Type 0} (P : A → Type 0) (xs : List A) (y : A) → P y → AllByRecursion P xs → AllByRecursion P (xs ++ y ∷ [])
all_push P [] y p h = (p, tt)
all_push P (x ∷ xs) y p h = (h.0, all_push P xs y p h.1)

-- ---- a run that is put into a slot

pub put_set : (xs : List (Option Slot)) (i : ℕ) (x : Slot) → i < length xs → slot_at xs i ≡ None → IsPut xs (set xs i (Some x)) x
put_set xs i x l free = record {
  here = (i, get_or-set_same xs i (Some x) None l);
  others = λ j y h. elim (cases_eq j i) [
    | inl e ↦ (let n : None ≡ Some y = sym free ∙ ap (slot_at xs) (sym e) ∙ h in absurd cc)
    | inr d ↦ get_or-set_other xs i j (Some x) None d ∙ h
  ];
  only = λ j y h. elim (cases_eq j i) [
    | inl e ↦ (let s : Some x ≡ Some y = sym (get_or-set_same xs i (Some x) None l) ∙ ap (slot_at (set xs i (Some x))) (sym e) ∙ h in inr cc)
    | inr d ↦ inl (sym (get_or-set_other xs i j (Some x) None d) ∙ h)
  ];
}

pub put_push : (xs : List (Option Slot)) (x : Slot) → IsPut xs (xs ++ Some x ∷ []) x
put_push xs x = record {
  here = (length xs, get_or_push xs (Some x) None (length xs) refl);
  others = λ j y h. elim (cases_lt j (length xs)) [
    | inl l ↦ get_or_append_left xs (Some x ∷ []) None j l ∙ h
    | inr l ↦ (let n : None ≡ Some y = sym (get_or_past xs j None l) ∙ h in absurd cc)
  ];
  only = λ j y h. elim (cases_lt j (length xs)) [
    | inl l ↦ inl (sym (get_or_append_left xs (Some x ∷ []) None j l) ∙ h)
    | inr l ↦ elim (cases_eq j (length xs)) [
      | inl e ↦ (let s : Some x ≡ Some y = sym (get_or_push xs (Some x) None j (sym e)) ∙ h in inr cc)
      | inr d ↦ (let long = length-append xs (Some x ∷ []) in
          let n : None ≡ Some y = sym (get_or_past (xs ++ Some x ∷ []) j None (omega (arith, l, d, long))) ∙ h in absurd cc)
    ]
  ];
}

-- one of more runs
pub going_more : (o : Options) (m n : ℕ) (xs : List (Option Going)) → m ≤ n → AllByRecursion (IsGoing o m) xs → AllByRecursion (IsGoing o n) xs
going_more o m n [] l h = tt
going_more o m n (None ∷ xs) l h = (tt, going_more o m n xs l h.1)
going_more o m n (Some g ∷ xs) l h = (let low = h.0.0 in ((omega (arith, low, l), h.0.1), going_more o m n xs l h.1))

pub all_at : {A : Type 0} (P : A → Type 0) (xs : List A) (i : ℕ) (d : A) → i < length xs → AllByRecursion P xs → P (get_or xs i d)
all_at P [] i d l h = absurd (omega (arith, l))
all_at P (x ∷ xs) zero d l h = h.0
all_at P (x ∷ xs) (suc i) d l h = all_at P xs i d (omega (arith, l)) h.1
