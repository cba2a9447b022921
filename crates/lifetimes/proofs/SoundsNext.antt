-- What sounds on a key after one event more, by the notes before it and the note that it begins.
use Rattle.std.proofs.Common.{◌≡◌, ◌≤◌, ◌∙◌, ℕ, suc, ◌+◌, List, [], ◌∷◌, Bool, true, false, cond, not, ◌&&◌, ◌||◌, nat_eq, Option, Some, None, is_some, refl, sym, ap, map, arith}
use Rattle.std.proofs.lemmas.Bool.{and_parts, and_from}
use Rattle.midi_model.specs.Notes.{Note, sounds, is_at, ending, sounding_on}
use Rattle.midi_model.specs.MusicLaws.{EndsBy, Ages, Grows}
use Rattle.receiver.specs.Sounding.{sounding_from, ended_on}

-- whether a note sounds on a key
abbrev pub is_here : ℕ → ℕ → Note → Bool
is_here c k n = is_at c k n && sounds n

pub none_here : (c k i : ℕ) (ns : List Note) → sounding_on c k ns ≡ 0 → sounding_from i ns c k ≡ None
none_here c k i [] h = refl
none_here c k i (n ∷ ns) h = pick (is_here c k n) h (none_here c k (suc i) ns)
  where
    pick : (p : Bool) → cond p 1 0 + sounding_on c k ns ≡ 0 → (sounding_on c k ns ≡ 0 → sounding_from (suc i) ns c k ≡ None)
        → cond p (Some (i, n)) (sounding_from (suc i) ns c k) ≡ None
    pick true e r = absurd (omega (arith, e))
    pick false e r = r (omega (arith, e))

-- ---- one note
same_place : (t c k : ℕ) (n x : Note) → Ages t n x → is_at c k x ≡ is_at c k n
same_place t c k n x a = ap (λ d. nat_eq d c && nat_eq x.key k) a.channel ∙ ap (λ j. nat_eq n.channel c && nat_eq j k) a.key

not_again : (t : ℕ) (e f : Option ℕ) → EndsBy t e f → not (is_some f) ≡ true → not (is_some e) ≡ true
not_again t None f h s = refl
not_again t (Some e) f h s = sym (ap (λ o. not (is_some o)) h) ∙ s

pub sounded : (t : ℕ) (n x : Note) → Ages t n x → sounds x ≡ true → sounds n ≡ true
sounded t n x a s = not_again t n.ended x.ended a.ended s

-- one that sounds on a key did before
stays : (t c k : ℕ) (n x : Note) → Ages t n x → is_here c k x ≡ true → is_here c k n ≡ true
stays t c k n x a h =
    let p = and_parts (is_at c k x) (sounds x) h in
    and_from (is_at c k n) (sounds n) (sym (same_place t c k n x a) ∙ p.0) (sounded t n x a p.1)

pub at_most : (t c k : ℕ) (b ns xs : List Note) → Grows t b ns xs → sounding_on c k xs ≤ sounding_on c k ns + sounding_on c k b
at_most t c k b [] xs g = let e : sounding_on c k xs ≡ sounding_on c k b = ap (sounding_on c k) g in omega (arith, e)
at_most t c k b (n ∷ ns) [] g = absurd g
at_most t c k b (n ∷ ns) (x ∷ xs) g = pick (is_here c k x) (is_here c k n) (stays t c k n x g.0) (at_most t c k b ns xs g.1)
  where
    pick : (p q : Bool) → (p ≡ true → q ≡ true) → sounding_on c k xs ≤ sounding_on c k ns + sounding_on c k b
        → cond p 1 0 + sounding_on c k xs ≤ (cond q 1 0 + sounding_on c k ns) + sounding_on c k b
    pick true true f h = omega (arith, h)
    pick true false f h = absurd (let e = f refl in cc)
    pick false true f h = omega (arith, h)
    pick false false f h = omega (arith, h)

-- ---- where the event begins no note on the key

-- what sounds there is the note that sounded before
pub kept : (t c k i : ℕ) (b ns xs : List Note) (x : ℕ × Note) → Grows t b ns xs → sounding_on c k b ≡ 0 → sounding_on c k ns ≤ 1
    → sounding_from i xs c k ≡ Some x → (y : ℕ × Note) × (sounding_from i ns c k ≡ Some y) × (x.1.onset ≡ y.1.onset)
kept t c k i b [] xs x g none one e =
    absurd (let q : sounding_from i xs c k ≡ None = ap (λ l. sounding_from i l c k) g ∙ none_here c k i b none in cc)
kept t c k i b (n ∷ ns) [] x g none one e = absurd g
kept t c k i b (n ∷ ns) (m ∷ xs) x g none one e =
    pick (is_here c k m) (is_here c k n) (stays t c k n m g.0) one e (kept t c k (suc i) b ns xs x g.1 none)
  where
    pick : (p q : Bool) → (p ≡ true → q ≡ true) → cond q 1 0 + sounding_on c k ns ≤ 1 → cond p (Some (i, m)) (sounding_from (suc i) xs c k) ≡ Some x
        → (sounding_on c k ns ≤ 1 → sounding_from (suc i) xs c k ≡ Some x
        → (y : ℕ × Note) × (sounding_from (suc i) ns c k ≡ Some y) × (x.1.onset ≡ y.1.onset))
        → (y : ℕ × Note) × (cond q (Some (i, n)) (sounding_from (suc i) ns c k) ≡ Some y) × (x.1.onset ≡ y.1.onset)
    pick true true f h e r = ((i, n), refl, (let s : x ≡ (i, m) = cc in ap (λ z. z.1.onset) s ∙ g.0.onset))
    pick true false f h e r = absurd (let s = f refl in cc)
    pick false true f h e r = absurd
        (let most = at_most t c k b ns xs g.1 in
        let q : sounding_from (suc i) xs c k ≡ None = none_here c k (suc i) xs (omega (arith, h, most, none)) in
        cc)
    pick false false f h e r = r (omega (arith, h)) e

none_ended : (c k : ℕ) (ns xs : List Note) → sounding_on c k ns ≡ 0 → ended_on c k ns xs ≡ false
none_ended c k [] xs h = refl
none_ended c k (n ∷ ns) [] h = refl
none_ended c k (n ∷ ns) (x ∷ xs) h = pick (is_at c k n) (sounds n) h (none_ended c k ns xs)
  where
    pick : (p q : Bool) → cond (p && q) 1 0 + sounding_on c k ns ≡ 0 → (sounding_on c k ns ≡ 0 → ended_on c k ns xs ≡ false)
        → ((p && (q && not (sounds x))) || ended_on c k ns xs) ≡ false
    pick true true e r = absurd (omega (arith, e))
    pick true false e r = r (omega (arith, e))
    pick false q e r = r (omega (arith, e))

-- one sounds there where one did that has not ended
pub left : (t c k i j : ℕ) (b ns xs : List Note) → Grows t b ns xs → sounding_on c k b ≡ 0 → sounding_on c k ns ≤ 1
    → is_some (sounding_from i xs c k) ≡ (is_some (sounding_from j ns c k) && not (ended_on c k ns xs))
left t c k i j b [] xs g none one = ap is_some (ap (λ l. sounding_from i l c k) g ∙ none_here c k i b none)
left t c k i j b (n ∷ ns) [] g none one = absurd g
left t c k i j b (n ∷ ns) (m ∷ xs) g none one =
    pick (is_at c k m) (sounds m) (is_at c k n) (sounds n) (same_place t c k n m g.0) (sounded t n m g.0) one
    (left t c k (suc i) (suc j) b ns xs g.1 none)
  where
    pick : (p q r s : Bool) → p ≡ r → (q ≡ true → s ≡ true) → cond (r && s) 1 0 + sounding_on c k ns ≤ 1
        → (sounding_on c k ns ≤ 1 → is_some (sounding_from (suc i) xs c k) ≡ (is_some (sounding_from (suc j) ns c k) && not (ended_on c k ns xs)))
        → is_some (cond (p && q) (Some (i, m)) (sounding_from (suc i) xs c k))
        ≡ (is_some (cond (r && s) (Some (j, n)) (sounding_from (suc j) ns c k)) && not ((r && (s && not q)) || ended_on c k ns xs))
    pick true q false s e f h z = absurd cc
    pick false q true s e f h z = absurd cc
    pick false q false s e f h z = z (omega (arith, h))
    pick true true true true e f h z = ap not (sym (none_ended c k ns xs (omega (arith, h))))
    pick true true true false e f h z = absurd (let y = f refl in cc)
    pick true false true true e f h z = let most = at_most t c k b ns xs g.1 in ap is_some (none_here c k (suc i) xs (omega (arith, h, most, none)))
    pick true false true false e f h z = z (omega (arith, h))

-- ---- where it begins one there

last_sounds : (t c k : ℕ) (n : Note) (ns xs : List Note) → is_here c k n ≡ true → Grows t (n ∷ []) ns xs → 1 ≤ sounding_on c k xs
last_sounds t c k n [] xs h g = pick (is_here c k n) h (ap (sounding_on c k) g)
  where
    pick : (p : Bool) → p ≡ true → sounding_on c k xs ≡ cond p 1 0 + 0 → 1 ≤ sounding_on c k xs
    pick true y e = omega (arith, e)
    pick false y e = absurd cc
last_sounds t c k n (m ∷ ns) [] h g = absurd g
last_sounds t c k n (m ∷ ns) (x ∷ xs) h g = let r = last_sounds t c k n ns xs h g.1 in omega (arith, r)

-- it is what sounds there
pub struck_last : (t c k i : ℕ) (n : Note) (ns xs : List Note) → is_here c k n ≡ true → Grows t (n ∷ []) ns xs → sounding_on c k xs ≤ 1
    → (j : ℕ) × (sounding_from i xs c k ≡ Some (j, n))
struck_last t c k i n [] xs h g one = (i, ap (λ l. sounding_from i l c k) g ∙ ap (λ p. cond p (Some (i, n)) None) h)
struck_last t c k i n (m ∷ ns) [] h g one = absurd g
struck_last t c k i n (m ∷ ns) (x ∷ xs) h g one = pick (is_here c k x) one (struck_last t c k (suc i) n ns xs h g.1)
  where
    pick : (p : Bool) → cond p 1 0 + sounding_on c k xs ≤ 1 → (sounding_on c k xs ≤ 1 → (j : ℕ) × (sounding_from (suc i) xs c k ≡ Some (j, n)))
        → (j : ℕ) × (cond p (Some (i, x)) (sounding_from (suc i) xs c k) ≡ Some (j, n))
    pick true l r = absurd (let s = last_sounds t c k n ns xs h g.1 in omega (arith, l, s))
    pick false l r = r (omega (arith, l))

-- and what sounded there has ended
pub cut : (t c k i : ℕ) (n : Note) (ns xs : List Note) → is_here c k n ≡ true → Grows t (n ∷ []) ns xs → sounding_on c k xs ≤ 1
    → (is_some (sounding_from i ns c k) && not (ended_on c k ns xs)) ≡ false
cut t c k i n [] xs h g one = refl
cut t c k i n (m ∷ ns) [] h g one = absurd g
cut t c k i n (m ∷ ns) (x ∷ xs) h g one =
    pick (is_at c k x) (sounds x) (is_at c k m) (sounds m) (same_place t c k m x g.0) one (cut t c k (suc i) n ns xs h g.1)
  where
    pick : (p q r s : Bool) → p ≡ r → cond (p && q) 1 0 + sounding_on c k xs ≤ 1
        → (sounding_on c k xs ≤ 1 → (is_some (sounding_from (suc i) ns c k) && not (ended_on c k ns xs)) ≡ false)
        → (is_some (cond (r && s) (Some (i, m)) (sounding_from (suc i) ns c k)) && not ((r && (s && not q)) || ended_on c k ns xs)) ≡ false
    pick true q false s e l z = absurd cc
    pick false q true s e l z = absurd cc
    pick false q false s e l z = z (omega (arith, l))
    pick true true true s e l z = absurd (let y = last_sounds t c k n ns xs h g.1 in omega (arith, l, y))
    pick true false true true e l z = refl
    pick true false true false e l z = z (omega (arith, l))

-- ---- after a reset

ended_all : (t c k : ℕ) (ns : List Note) → sounding_on c k (map (ending t) ns) ≡ 0
ended_all t c k [] = refl
ended_all t c k (n ∷ ns) = pick n.ended (ended_all t c k ns)
  where
    quiet : (p : Bool) → sounding_on c k (map (ending t) ns) ≡ 0 → cond (p && false) 1 0 + sounding_on c k (map (ending t) ns) ≡ 0
    quiet true h = omega (arith, h)
    quiet false h = omega (arith, h)

    pick : (e : Option ℕ) → sounding_on c k (map (ending t) ns) ≡ 0
        → (let x : Note = record n { ended = e } in cond (is_here c k (ending t x)) 1 0 + sounding_on c k (map (ending t) ns) ≡ 0)
    pick None h = quiet (is_at c k n) h
    pick (Some e) h = quiet (is_at c k n) h

-- none sounds
pub silenced : (t c k i : ℕ) (ns : List Note) → sounding_from i (map (ending t) ns) c k ≡ None
silenced t c k i ns = none_here c k i (map (ending t) ns) (ended_all t c k ns)
