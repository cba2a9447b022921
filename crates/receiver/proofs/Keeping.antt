-- The note that sounds on a key, of a list whose notes all fade in the same way.
use Rattle.std.proofs.Common.{◌≡◌, ℕ, suc, ◌+◌, ◌≤◌, List, [], ◌∷◌, ◌++◌, Bool, true, false, cond, not, ◌&&◌, ◌||◌, Option, Some, None, is_some, refl, ap, ◌∙◌, map, length, nat_eq, arith}
use Rattle.std.specs.Option.{option_or}
use Rattle.midi_model.specs.Notes.{Note, sounds, is_at, ending, Fades, sounding_on}
use Rattle.receiver.specs.Sounding.{sounding_from, ended_on}
use Rattle.receiver.specs.Turns.{kept}

same_place : (d j : ℕ) (n x : Note) → Fades n x → is_at d j x ≡ is_at d j n
same_place d j n x f = ap (λ a. nat_eq a d && nat_eq x.key j) f.channel ∙ ap (λ b. nat_eq n.channel d && nat_eq b j) f.key

none_sounds : (d j i : ℕ) (ns : List Note) → sounding_on d j ns ≡ 0 → sounding_from i ns d j ≡ None
none_sounds d j i [] h = refl
none_sounds d j i (n ∷ ns) h = pick (is_at d j n && sounds n) h (λ e. none_sounds d j (suc i) ns e)
  where
    pick : (p : Bool) → cond p 1 0 + sounding_on d j ns ≡ 0 → (sounding_on d j ns ≡ 0 → sounding_from (suc i) ns d j ≡ None)
        → cond p (Some (i, n)) (sounding_from (suc i) ns d j) ≡ None
    pick true e k = absurd (omega (arith, e))
    pick false e k = k (omega (arith, e))

-- where one sounds, none after it does
rest_silent : (d j i : ℕ) (n : Note) (ns : List Note) → sounding_on d j (n ∷ ns) ≤ 1 → (is_at d j n && sounds n) ≡ true → sounding_from i ns d j ≡ None
rest_silent d j i n ns h e = none_sounds d j i ns (pick (is_at d j n && sounds n) h e)
  where
    pick : (p : Bool) → cond p 1 0 + sounding_on d j ns ≤ 1 → p ≡ true → sounding_on d j ns ≡ 0
    pick true k x = omega (arith, k)
    pick false k x = absurd cc

rest_one : (d j : ℕ) (n : Note) (ns : List Note) → sounding_on d j (n ∷ ns) ≤ 1 → sounding_on d j ns ≤ 1
rest_one d j n ns h = omega (arith, h)

-- the note that sounds, once all notes have faded
pub sounding_map : (f : Note → Note) → ((n : Note) → Fades n (f n)) → (d j i : ℕ) (ns : List Note) → sounding_on d j ns ≤ 1
    → sounding_from i (map f ns) d j ≡ kept f (sounding_from i ns d j)
sounding_map f h d j i [] one = refl
sounding_map f h d j i (n ∷ ns) one =
    let rest : sounding_from (suc i) (map f ns) d j ≡ kept f (sounding_from (suc i) ns d j) = sounding_map f h d j (suc i) ns (rest_one d j n ns one) in
    rw (same_place d j n (f n) (h n))
    (pick (sounding_from (suc i) (map f ns) d j) (sounding_from (suc i) ns d j) (is_at d j n) (sounds n) (h n).sounds rest
    (λ e. rest ∙ ap (kept f) (rest_silent d j (suc i) n ns one e)))
  where
    gone : (u : Bool) (now o : Option (ℕ × Note)) → (u ≡ true → false ≡ true) → now ≡ o → cond u (Some (i, f n)) now ≡ o
    gone true now o l rest = (let x : false ≡ true = l refl in absurd cc)
    gone false now o l rest = rest

    here : (u : Bool) (now : Option (ℕ × Note)) → now ≡ None → cond u (Some (i, f n)) now ≡ cond u (Some (i, f n)) None
    here true now e = refl
    here false now e = e

    pick : (now before : Option (ℕ × Note)) (a s : Bool) → (sounds (f n) ≡ true → s ≡ true) → now ≡ kept f before → ((a && s) ≡ true → now ≡ None)
        → cond (a && sounds (f n)) (Some (i, f n)) now ≡ kept f (cond (a && s) (Some (i, n)) before)
    pick now before false s l rest silent = rest
    pick now before true false l rest silent = gone (sounds (f n)) now (kept f before) l rest
    pick now before true true l rest silent = here (sounds (f n)) now (silent refl)

-- whether it ended
pub ended_map : (f : Note → Note) → (d j i : ℕ) (ns ys : List Note) → sounding_on d j ns ≤ 1
    → ended_on d j ns (map f ns ++ ys) ≡ (is_some (sounding_from i ns d j) && not (is_some (kept f (sounding_from i ns d j))))
ended_map f d j i [] ys one = refl
ended_map f d j i (n ∷ ns) ys one =
    pick (sounding_from (suc i) ns d j) (ended_on d j ns (map f ns ++ ys)) (is_at d j n) (sounds n)
    (ended_map f d j (suc i) ns ys (rest_one d j n ns one)) (λ e. rest_silent d j (suc i) n ns one e)
  where
    here : (u r : Bool) → r ≡ false → (not u || r) ≡ not (is_some {T = ℕ × Note} (cond u (Some (i, f n)) None))
    here true r e = e
    here false r e = refl

    pick : (o : Option (ℕ × Note)) (rest a s : Bool) → rest ≡ (is_some o && not (is_some (kept f o))) → ((a && s) ≡ true → o ≡ None)
        → ((a && (s && not (sounds (f n)))) || rest) ≡ (is_some (cond (a && s) (Some (i, n)) o) && not (is_some (kept f (cond (a && s) (Some (i, n)) o))))
    pick o rest false s same silent = same
    pick o rest true false same silent = same
    pick o rest true true same silent = here (sounds (f n)) rest (same ∙ ap (λ x. is_some x && not (is_some (kept f x))) (silent refl))

-- ---- what keeps a note, and what ends it
pub kept_same : (f : Note → Note) (d j : ℕ) → ((n : Note) → is_at d j n ≡ true → f n ≡ n)
    → (i : ℕ) (ns : List Note) → kept f (sounding_from i ns d j) ≡ sounding_from i ns d j
kept_same f d j h i [] = refl
kept_same f d j h i (n ∷ ns) = pick (is_at d j n) (sounds n) (h n) refl (sounding_from (suc i) ns d j) (kept_same f d j h (suc i) ns)
  where
    pick : (a s : Bool) → (a ≡ true → f n ≡ n) → sounds n ≡ s → (o : Option (ℕ × Note)) → kept f o ≡ o
        → kept f (cond (a && s) (Some (i, n)) o) ≡ cond (a && s) (Some (i, n)) o
    pick false s k e o rest = rest
    pick true false k e o rest = rest
    pick true true k e o rest = ap (λ y. cond (sounds y) (Some (i, y)) None) (k refl) ∙ ap (λ b. cond b (Some (i, n)) None) e

pub kept_none : (f : Note → Note) (d j : ℕ) → ((n : Note) → is_at d j n ≡ true → sounds (f n) ≡ false)
    → (i : ℕ) (ns : List Note) → kept f (sounding_from i ns d j) ≡ None
kept_none f d j h i [] = refl
kept_none f d j h i (n ∷ ns) = pick (is_at d j n) (sounds n) (h n) (sounding_from (suc i) ns d j) (kept_none f d j h (suc i) ns)
  where
    pick : (a s : Bool) → (a ≡ true → sounds (f n) ≡ false) → (o : Option (ℕ × Note)) → kept f o ≡ None
        → kept f (cond (a && s) (Some (i, n)) o) ≡ None
    pick false s k o rest = rest
    pick true false k o rest = rest
    pick true true k o rest = ap (λ b. cond b (Some (i, f n)) None) (k refl)

pub kept_then : (f g : Note → Note) → ((n : Note) → Fades n (g n)) → (o : Option (ℕ × Note)) → kept (λ n. g (f n)) o ≡ kept g (kept f o)
kept_then f g h None = refl
kept_then f g h (Some x) = pick (sounds (f x.1)) (h (f x.1)).sounds
  where
    gone : (u : Bool) → (u ≡ true → false ≡ true) → cond {A = Option (ℕ × Note)} u (Some (x.0, g (f x.1))) None ≡ None
    gone true l = (let e : false ≡ true = l refl in absurd cc)
    gone false l = refl

    pick : (s : Bool) → (sounds (g (f x.1)) ≡ true → s ≡ true) → kept (λ n. g (f n)) (Some x) ≡ kept g (cond s (Some (x.0, f x.1)) None)
    pick true l = refl
    pick false l = gone (sounds (g (f x.1))) l

pub or_none : (o : Option (ℕ × Note)) → option_or o None ≡ o
or_none None = refl
or_none (Some x) = refl

pub ending_ends : (t : ℕ) (n : Note) → sounds (ending t n) ≡ false
ending_ends t n = by_end n.ended
  where
    by_end : (e : Option ℕ) → (let x : Note = record n { ended = e } in sounds (ending t x) ≡ false)
    by_end None = refl
    by_end (Some x) = refl

-- of two lists, one behind the other
pub sounding_append : (d j i : ℕ) (xs ys : List Note) → sounding_from i (xs ++ ys) d j ≡ option_or (sounding_from i xs d j) (sounding_from (length xs + i) ys d j)
sounding_append d j i [] ys = ap (λ a. sounding_from a ys d j) (omega arith)
sounding_append d j i (x ∷ xs) ys =
    pick (is_at d j x && sounds x) (sounding_append d j (suc i) xs ys ∙ ap (λ a. option_or (sounding_from (suc i) xs d j) (sounding_from a ys d j)) (omega arith))
  where
    pick : (p : Bool) → sounding_from (suc i) (xs ++ ys) d j ≡ option_or (sounding_from (suc i) xs d j) (sounding_from (suc (length xs) + i) ys d j)
        → cond p (Some (i, x)) (sounding_from (suc i) (xs ++ ys) d j)
        ≡ option_or (cond p (Some (i, x)) (sounding_from (suc i) xs d j)) (sounding_from (suc (length xs) + i) ys d j)
    pick true e = refl
    pick false e = e
