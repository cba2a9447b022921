-- Some note of a channel that sounds, and some key of it on which one sounds: the same, where at most one note sounds on a key.
use Rattle.std.proofs.Common.{◌≡◌, ◌<◌, ◌≤◌, ◌∙◌, ℕ, zero, suc, ◌+◌, List, [], ◌∷◌, Bool, true, false, cond, ◌&&◌, ◌||◌, nat_eq, Option, Some, None, is_some, refl, sym, ap, arith, inl, inr}
use Rattle.std.specs.List.{AllByRecursion}
use Rattle.std.proofs.lemmas.Bool.{eq-eqb, or_right}
use Rattle.std.proofs.lemmas.Bool.Decides.{eqb_tells}
use Rattle.midi_model.specs.Notes.{Note, sounds, is_at, sounding_on}
use Rattle.retune_model.specs.Faults.{any_note}
use Rattle.receiver.specs.Sounding.{sounding_from, sounding_at}
use Rattle.lifetimes.specs.Lists.{any_key}
use Rattle.lifetimes.proofs.AnyNote.{both, parts}

-- ---- some key, some note

pub key_there : (f : ℕ → Bool) (n k : ℕ) → k < n → f k ≡ true → any_key f n ≡ true
key_there f zero k low h = absurd (omega (arith, low))
key_there f (suc n) k low h = elim (eqb_tells k n) [
  | inl t ↦ ap (λ b. b || any_key f n) (ap f (sym t.1) ∙ h)
  | inr t ↦ or_right (f n) (any_key f n) (key_there f n k (let ne = t.1 in omega (arith, low, ne)) h)
]

pub key_found : (f : ℕ → Bool) (n : ℕ) → any_key f n ≡ true → (k : ℕ) × (k < n) × (f k ≡ true)
key_found f zero h = absurd cc
key_found f (suc n) h = pick (f n) refl h (key_found f n)
  where
    pick : (b : Bool) → f n ≡ b → (b || any_key f n) ≡ true → (any_key f n ≡ true → (k : ℕ) × (k < n) × (f k ≡ true))
        → (k : ℕ) × (k < suc n) × (f k ≡ true)
    pick true e h before = (n, omega arith, e)
    pick false e h before = (let r = before h in (r.0, (let low = r.1 in omega (arith, low)), r.2))

pub any_key_same : (f g : ℕ → Bool) (n : ℕ) → ((k : ℕ) → k < n → f k ≡ g k) → any_key f n ≡ any_key g n
any_key_same f g zero h = refl
any_key_same f g (suc n) h = ap (λ b. b || any_key f n) (h n (omega arith)) ∙ ap (λ b. g n || b) (any_key_same f g n (λ k low. h k (omega (arith, low))))

pub any_note_same : (f g : Note → Bool) (ns : List Note) → ((n : Note) → f n ≡ g n) → any_note f ns ≡ any_note g ns
any_note_same f g [] h = refl
any_note_same f g (n ∷ ns) h = ap (λ b. b || any_note f ns) (h n) ∙ ap (λ b. g n || b) (any_note_same f g ns h)

-- ---- a note of a channel that sounds

abbrev heard : ℕ → (Note → Bool) → Note → Bool
heard c f n = (sounds n && nat_eq n.channel c) && f n

-- one of a key is one of the channel
note_there : (c k i : ℕ) (f : Note → Bool) (ns : List Note) (x : ℕ × Note) → sounding_from i ns c k ≡ Some x → f x.1 ≡ true
    → any_note (heard c f) ns ≡ true
note_there c k i f [] x e h = absurd cc
note_there c k i f (n ∷ ns) x e h = pick (sounds n) (nat_eq n.channel c) (nat_eq n.key k) e (λ g. note_there c k (suc i) f ns x g h)
  where
    pick : (s a b : Bool) → cond ((a && b) && s) (Some (i, n)) (sounding_from (suc i) ns c k) ≡ Some x
        → (sounding_from (suc i) ns c k ≡ Some x → any_note (heard c f) ns ≡ true)
        → (((s && a) && f n) || any_note (heard c f) ns) ≡ true
    pick s false b e later = or_right ((s && false) && f n) (any_note (heard c f) ns) (later e)
    pick s true false e later = or_right ((s && true) && f n) (any_note (heard c f) ns) (later e)
    pick false true true e later = later e
    pick true true true e later = ap (λ b. b || any_note (heard c f) ns) ((let same : x ≡ (i, n) = cc in ap (λ y. f y.1) (sym same)) ∙ h)

rest_one : (c k : ℕ) (n : Note) (ns : List Note) → sounding_on c k (n ∷ ns) ≤ 1 → sounding_on c k ns ≤ 1
rest_one c k n ns h = omega (arith, h)

none_sounds : (c k i : ℕ) (ns : List Note) → sounding_on c k ns ≡ 0 → sounding_from i ns c k ≡ None
none_sounds c k i [] h = refl
none_sounds c k i (n ∷ ns) h = pick (is_at c k n && sounds n) h (none_sounds c k (suc i) ns)
  where
    pick : (p : Bool) → cond p 1 0 + sounding_on c k ns ≡ 0 → (sounding_on c k ns ≡ 0 → sounding_from (suc i) ns c k ≡ None)
        → cond p (Some (i, n)) (sounding_from (suc i) ns c k) ≡ None
    pick true e rest = absurd (omega (arith, e))
    pick false e rest = rest (omega (arith, e))

-- where one sounds further on, none does before
passed : (c k i : ℕ) (n : Note) (ns : List Note) (x : ℕ × Note) → sounding_on c k (n ∷ ns) ≤ 1 → sounding_from (suc i) ns c k ≡ Some x
    → sounding_from i (n ∷ ns) c k ≡ Some x
passed c k i n ns x one e = pick (is_at c k n && sounds n) one
  where
    pick : (p : Bool) → cond p 1 0 + sounding_on c k ns ≤ 1 → cond p (Some (i, n)) (sounding_from (suc i) ns c k) ≡ Some x
    pick true h = absurd (let none : sounding_from (suc i) ns c k ≡ None = none_sounds c k (suc i) ns (omega (arith, h)) in cc)
    pick false h = e

here : (c i : ℕ) (n : Note) (ns : List Note) → (sounds n && nat_eq n.channel c) ≡ true → sounding_from i (n ∷ ns) c n.key ≡ Some (i, n)
here c i n ns e = (let p = parts (sounds n) (nat_eq n.channel c) e in
    pick (nat_eq n.channel c) (nat_eq n.key n.key) (sounds n) p.1 (eq-eqb n.key n.key refl) p.0)
  where
    pick : (a b s : Bool) → a ≡ true → b ≡ true → s ≡ true → cond ((a && b) && s) (Some (i, n)) (sounding_from (suc i) ns c n.key) ≡ Some (i, n)
    pick true true true e f g = refl
    pick true true false e f g = absurd cc
    pick true false s e f g = absurd cc
    pick false b s e f g = absurd cc

-- one of the channel is one of a key
abbrev IsOfKey : ℕ → ℕ → (Note → Bool) → List Note → Type 0
IsOfKey c i f ns = (k : ℕ) × (k < 128) × (x : ℕ × Note) × (sounding_from i ns c k ≡ Some x) × (f x.1 ≡ true)

note_found : (c i : ℕ) (f : Note → Bool) (ns : List Note) → ((k : ℕ) → sounding_on c k ns ≤ 1) → AllByRecursion (λ n. n.key < 128) ns
    → any_note (heard c f) ns ≡ true → IsOfKey c i f ns
note_found c i f [] one low h = absurd cc
note_found c i f (n ∷ ns) one low h =
    pick (heard c f n) refl h (λ g. note_found c (suc i) f ns (λ k. rest_one c k n ns (one k)) low.1 g)
  where
    pick : (b : Bool) → heard c f n ≡ b → (b || any_note (heard c f) ns) ≡ true → (any_note (heard c f) ns ≡ true → IsOfKey c (suc i) f ns)
        → IsOfKey c i f (n ∷ ns)
    pick true e h later = (let p = parts (sounds n && nat_eq n.channel c) (f n) e in (n.key, low.0, (i, n), here c i n ns p.0, p.1))
    pick false e h later = (let r = later h in (r.0, r.1, r.2, passed c r.0 i n ns r.2 (one r.0) r.3, r.4))

-- ---- the law

pub keys_and_notes : (c : ℕ) (f : Note → Bool) (g : ℕ → Bool) (ns : List Note) → ((k : ℕ) → sounding_on c k ns ≤ 1)
    → AllByRecursion (λ n. n.key < 128) ns
    → ((k : ℕ) (x : ℕ × Note) → k < 128 → sounding_at ns c k ≡ Some x → f x.1 ≡ g k)
    → any_note (λ n. (sounds n && nat_eq n.channel c) && f n) ns ≡ any_key (λ k. is_some (sounding_at ns c k) && g k) 128
keys_and_notes c f g ns one low agree = both (any_note (heard c f) ns) (any_key there 128) forth back
  where
    there : ℕ → Bool
    there k = is_some (sounding_at ns c k) && g k

    forth : any_note (heard c f) ns ≡ true → any_key there 128 ≡ true
    forth h = (let r = note_found c 1 f ns one low h in
        key_there there 128 r.0 r.1 (ap (λ o. is_some o && g r.0) r.3 ∙ (sym (agree r.0 r.2 r.1 r.3) ∙ r.4)))

    back : any_key there 128 ≡ true → any_note (heard c f) ns ≡ true
    back h = (let r = key_found there 128 h in let p = parts (is_some (sounding_at ns c r.0)) (g r.0) r.2 in pick r.0 r.1 (sounding_at ns c r.0) refl p.0 p.1)
      where
        pick : (k : ℕ) → k < 128 → (o : Option (ℕ × Note)) → sounding_at ns c k ≡ o → is_some o ≡ true → g k ≡ true → any_note (heard c f) ns ≡ true
        pick k low (Some x) e s h = note_there c k 1 f ns x e (agree k x low e ∙ h)
        pick k low None e s h = absurd cc
