-- A note of a pair ended exactly where one did on a key whose note is of the pair.
use Rattle.std.proofs.Common.{◌≡◌, ◌≤◌, ◌<◌, ◌∙◌, ℕ, zero, suc, ◌+◌, ℤ, List, [], ◌∷◌, Bool, true, false, cond, not, ◌&&◌, ◌||◌, nat_eq, nat_le, nat_lt, Some, None, refl, sym, ap, length, drop, get_or, arith, inl, inr}
use Rattle.std.specs.List.{AllByRecursion, filter}
use Rattle.std.proofs.lemmas.Bool.{and_parts, and_from, eq-eqb, leb-true, cases_lt, lt-ltb, le-ltb}
use Rattle.std.proofs.lemmas.Bool.Decides.{eqb_tells}
use Rattle.midi_model.specs.Notes.{Note, sounds, is_at, sounding_on}
use Rattle.midi_model.specs.MusicLaws.{Grows}
use Rattle.retune_model.specs.Options.{Options}
use Rattle.retune_model.specs.Ports.{PortEvents, AreTimed}
use Rattle.retune_model.specs.Faults.{Targets, int_eq}
use Rattle.retune_model.specs.Pairs.{Pair}
use Rattle.retune_model.specs.Rests.{notes_at, nobody, past_at, holds_at}
use Rattle.retune_model.specs.LastEnds.{has_ended}
use Rattle.retune_model.specs.RestLaws.{NotesHoldAsWritten}
use Rattle.receiver.specs.Sounding.{sounding_from, sounding_at, ended_on}
use Rattle.lifetimes.specs.Lists.{any_key}
use Rattle.lifetimes.specs.Told.{is_of_pair, steps_in}
use Rattle.lifetimes.proofs.EndsKept.{told_table, same_test}
use Rattle.lifetimes.proofs.SoundsNext.{is_here, none_here}
use Rattle.lifetimes.proofs.KeysAndNotes.{any_key_same}

-- whether one of these notes sounded and doesn't now
abbrev pub some_ended : (Note → Bool) → List Note → List Note → Bool
some_ended f [] xs = false
some_ended f (n ∷ ns) [] = false
some_ended f (n ∷ ns) (x ∷ xs) = (f n && (sounds n && not (sounds x))) || some_ended f ns xs

pub pair_ended : (o : Options) (table : Targets) (p : Pair) (ns xs : List Note)
    → has_ended p.part.port o (told_table o table) p ns xs ≡ some_ended (is_of_pair o table p) ns xs
pair_ended o table p [] xs = refl
pair_ended o table p (n ∷ ns) [] = refl
pair_ended o table p (n ∷ ns) (x ∷ xs) =
    ap (λ b. (b && (sounds n && not (sounds x))) || has_ended p.part.port o (told_table o table) p ns xs) (sym (same_test o table p n))
    ∙ ap (λ b. (is_of_pair o table p n && (sounds n && not (sounds x))) || b) (pair_ended o table p ns xs)

-- ---- of the notes since the last reset

drop_silent : (f : Note → Bool) (c : ℕ) (ns xs : List Note) → ((i : ℕ) → i < c → i < length ns → sounds (get_or ns i nobody) ≡ false)
    → some_ended f (drop c ns) (drop c xs) ≡ some_ended f ns xs
drop_silent f zero ns xs h = refl
drop_silent f (suc c) [] xs h = refl
drop_silent f (suc c) (n ∷ ns) [] h = none (drop c ns)
  where
    none : (l : List Note) → some_ended f l [] ≡ false
    none [] = refl
    none (m ∷ l) = refl
drop_silent f (suc c) (n ∷ ns) (x ∷ xs) h =
    drop_silent f c ns xs (λ i l m. h (suc i) (omega (arith, l)) (omega (arith, m)))
    ∙ sym (ap (λ b. b || some_ended f ns xs) (pick (f n) (sounds n) (h 0 (omega arith) (omega arith))))
  where
    pick : (a s : Bool) → s ≡ false → (a && (s && not (sounds x))) ≡ false
    pick a true e = absurd cc
    pick true false e = refl
    pick false false e = refl

-- those that began before it don't sound
silent_before : NotesHoldAsWritten → (part : ℕ → Bool) (port : PortEvents) → AreTimed port → (k i : ℕ) → i < past_at part port.events k
    → i < length (notes_at part port.events k)
    → sounds (get_or (notes_at part port.events k) i nobody) ≡ false
silent_before law part port timed k i old begun = pick (sounds n) refl
  where
    n : Note
    n = get_or (notes_at part port.events k) i nobody

    pick : (b : Bool) → sounds (get_or (notes_at part port.events k) i nobody) ≡ b → b ≡ false
    pick false e = refl
    pick true e = absurd
        (let there : holds_at part 0 port k i ≡ true = (law part 0 port timed k i).1 (inl (begun, e)) in
        let later = leb-true (past_at part port.events k) i (and_parts (nat_le (past_at part port.events k) i) _ there).0 in
        omega (arith, old, later))

pub since_ended : NotesHoldAsWritten → (part : ℕ → Bool) (port : PortEvents) → AreTimed port → (k : ℕ) (f : Note → Bool) (xs : List Note)
    → some_ended f (drop (past_at part port.events k) (notes_at part port.events k)) (drop (past_at part port.events k) xs)
    ≡ some_ended f (notes_at part port.events k) xs
since_ended law part port timed k f xs =
    drop_silent f (past_at part port.events k) (notes_at part port.events k) xs (silent_before law part port timed k)

-- ---- of some channels

pub chosen_ended : (p : ℕ → Bool) (f : Note → Bool) → ((n : Note) → f n ≡ true → p n.channel ≡ true) → (t : ℕ) (b ns xs : List Note) → Grows t b ns xs
    → some_ended f (filter (λ (n : Note). p n.channel) ns) (filter (λ (n : Note). p n.channel) xs) ≡ some_ended f ns xs
chosen_ended p f within t b [] xs g = refl
chosen_ended p f within t b (n ∷ ns) [] g = absurd g
chosen_ended p f within t b (n ∷ ns) (x ∷ xs) g =
    pick (p n.channel) (p x.channel) (ap p g.0.channel) (f n) refl (within n) (chosen_ended p f within t b ns xs g.1)
  where
    chosen : List Note → List Note
    chosen l = filter (λ (m : Note). p m.channel) l

    pick : (a c : Bool) → c ≡ a → (h : Bool) → f n ≡ h → (h ≡ true → a ≡ true) → some_ended f (chosen ns) (chosen xs) ≡ some_ended f ns xs
        → some_ended f (cond a (n ∷ chosen ns) (chosen ns)) (cond c (x ∷ chosen xs) (chosen xs))
        ≡ ((f n && (sounds n && not (sounds x))) || some_ended f ns xs)
    pick true true e h is w r = ap (λ z. (f n && (sounds n && not (sounds x))) || z) r
    pick false false e false is w r = r ∙ sym (ap (λ z. (z && (sounds n && not (sounds x))) || some_ended f ns xs) is)
    pick false false e true is w r = absurd (let y = w refl in cc)
    pick true false e h is w r = absurd cc
    pick false true e h is w r = absurd cc

-- ---- key by key

any_either : (f g : ℕ → Bool) (n : ℕ) → any_key (λ k. f k || g k) n ≡ (any_key f n || any_key g n)
any_either f g zero = refl
any_either f g (suc n) = ap (λ b. (f n || g n) || b) (any_either f g n) ∙ turned (f n) (g n) (any_key f n) (any_key g n)
  where
    turned : (a b c d : Bool) → ((a || b) || (c || d)) ≡ ((a || c) || (b || d))
    turned true b c d = refl
    turned false true true d = refl
    turned false true false d = refl
    turned false false c d = refl

any_none : (n : ℕ) → any_key (λ k. false) n ≡ false
any_none zero = refl
any_none (suc n) = any_none n

-- a test that holds of one key at most
any_one : (j : ℕ) (g : ℕ → Bool) (n : ℕ) → any_key (λ k. nat_eq j k && g k) n ≡ (nat_lt j n && g j)
any_one j g zero = sym (ap (λ b. b && g j) (le-ltb j 0 (omega arith)))
any_one j g (suc n) = elim (eqb_tells j n) [
  | inl t ↦
      ap (λ b. (b && g n) || any_key (λ k. nat_eq j k && g k) n) t.0
      ∙ ap (λ b. g n || b) (any_one j g n ∙ ap (λ b. b && g j) (let high : n ≤ j = (let e = t.1 in omega (arith, e)) in le-ltb j n high))
      ∙ or_none (g n) ∙ sym (ap g t.1)
      ∙ sym (ap (λ b. b && g j) (let low : j < suc n = (let e = t.1 in omega (arith, e)) in lt-ltb j (suc n) low))
  | inr t ↦
      ap (λ b. (b && g n) || any_key (λ k. nat_eq j k && g k) n) t.0
      ∙ any_one j g n ∙ ap (λ b. b && g j) (same_side (let ne = t.1 in ne))
]
  where
    or_none : (b : Bool) → (b || false) ≡ b
    or_none true = refl
    or_none false = refl

    same_side : (j ≡ n → ⊥) → nat_lt j n ≡ nat_lt j (suc n)
    same_side ne = elim (cases_lt j n) [
      | inl l ↦ lt-ltb j n l ∙ sym (lt-ltb j (suc n) (omega (arith, l)))
      | inr l ↦ le-ltb j n l ∙ sym (le-ltb j (suc n) (omega (arith, l, ne)))
    ]

-- whether a note is of a channel and of what is told of its key
abbrev pub is_of_key : ℕ → (ℕ → Bool) → Note → Bool
is_of_key c g n = nat_eq n.channel c && g n.key

-- some key of a channel on which a note ended, and some note of it that did
pub by_keys : (c : ℕ) (g : ℕ → Bool) (ns xs : List Note) → AllByRecursion (λ n. n.key < 128) ns
    → any_key (λ k. ended_on c k ns xs && g k) 128 ≡ some_ended (is_of_key c g) ns xs
by_keys c g [] xs low = any_none 128
by_keys c g (n ∷ ns) [] low = any_none 128
by_keys c g (n ∷ ns) (x ∷ xs) low =
    any_key_same (λ k. ended_on c k (n ∷ ns) (x ∷ xs) && g k) (λ k. (nat_eq n.key k && (gone && g k)) || (ended_on c k ns xs && g k)) 128
    (λ k l. split (nat_eq n.channel c) (nat_eq n.key k) (sounds n && not (sounds x)) (ended_on c k ns xs) (g k))
    ∙ any_either (λ k. nat_eq n.key k && (gone && g k)) (λ k. ended_on c k ns xs && g k) 128
    ∙ ap (λ b. b || any_key (λ k. ended_on c k ns xs && g k) 128)
    (any_one n.key (λ k. gone && g k) 128 ∙ ap (λ b. b && (gone && g n.key)) (lt-ltb n.key 128 low.0)
    ∙ order (nat_eq n.channel c) (sounds n && not (sounds x)) (g n.key))
    ∙ ap (λ b. (is_of_key c g n && (sounds n && not (sounds x))) || b) (by_keys c g ns xs low.1)
  where
    gone : Bool
    gone = nat_eq n.channel c && (sounds n && not (sounds x))

    split : (a b s r h : Bool) → ((((a && b) && s) || r) && h) ≡ ((b && ((a && s) && h)) || (r && h))
    split true true true r true = refl
    split true true true true false = refl
    split true true true false false = refl
    split true true false r h = refl
    split true false s r h = refl
    split false true s r h = refl
    split false false s r h = refl

    order : (a s h : Bool) → ((a && s) && h) ≡ ((a && h) && s)
    order true true true = refl
    order true true false = refl
    order true false true = refl
    order true false false = refl
    order false s h = refl

-- ---- by what was struck

some_ended_same : (f g : Note → Bool) (ns xs : List Note) → AllByRecursion (λ n. sounds n ≡ true → f n ≡ g n) ns
    → some_ended f ns xs ≡ some_ended g ns xs
some_ended_same f g [] xs h = refl
some_ended_same f g (n ∷ ns) [] h = refl
some_ended_same f g (n ∷ ns) (x ∷ xs) h =
    ap (λ b. b || some_ended f ns xs) (pick (sounds n) h.0) ∙ ap (λ b. (g n && (sounds n && not (sounds x))) || b) (some_ended_same f g ns xs h.1)
  where
    none : (a b : Bool) → (a && false) ≡ (b && false)
    none true true = refl
    none true false = refl
    none false true = refl
    none false false = refl

    pick : (s : Bool) → (s ≡ true → f n ≡ g n) → (f n && (s && not (sounds x))) ≡ (g n && (s && not (sounds x)))
    pick true e = ap (λ b. b && (true && not (sounds x))) (e refl)
    pick false e = none (f n) (g n)

each : (P Q : Note → Type 0) (ns : List Note) → ((n : Note) → P n → Q n) → AllByRecursion P ns → AllByRecursion Q ns
each P Q [] f h = tt
each P Q (n ∷ ns) f h = (f n h.0, each P Q ns f h.1)

-- a note that sounds is the one that sounds on its key
abbrev pub IsFound : ℕ → ℕ → List Note → Note → Type 0
IsFound i c ns n = is_here c n.key n ≡ true → (j : ℕ) × (sounding_from i ns c n.key ≡ Some (j, n))

pub all_found : (i c : ℕ) (ns : List Note) → ((k : ℕ) → sounding_on c k ns ≤ 1) → AllByRecursion (IsFound i c ns) ns
all_found i c [] one = tt
all_found i c (n ∷ ns) one = (
  (λ h. (i, ap (λ b. cond b (Some (i, n)) (sounding_from (suc i) ns c n.key)) h)),
  each (IsFound (suc i) c ns) (IsFound i c (n ∷ ns)) ns later (all_found (suc i) c ns (λ k. (let l = one k in omega (arith, l)))),
)
  where
    later : (m : Note) → IsFound (suc i) c ns m → IsFound i c (n ∷ ns) m
    later m found h = (let f = found h in (f.0, pick (is_here c m.key n) (one m.key) f.1))
      where
        pick : (b : Bool) → cond b 1 0 + sounding_on c m.key ns ≤ 1 → {j : ℕ} → sounding_from (suc i) ns c m.key ≡ Some (j, m)
            → cond b (Some (i, n)) (sounding_from (suc i) ns c m.key) ≡ Some (j, m)
        pick true l e = absurd (let none : sounding_from (suc i) ns c m.key ≡ None = none_here c m.key (suc i) ns (omega (arith, l)) in cc)
        pick false l e = e

-- where the steps of a key are those of the note that sounds there, the two tests of ended notes are one
pub by_pairs : (o : Options) (table : Targets) (p : Pair) (steps : ℕ → ℤ) (ns xs : List Note)
    → ((k : ℕ) → sounding_on p.part.channel k ns ≤ 1) → AllByRecursion (λ n. n.key < 128) ns
    → ((k : ℕ) (x : ℕ × Note) → k < 128 → sounding_at ns p.part.channel k ≡ Some x → steps k ≡ steps_in o table x.1)
    → any_key (λ k. ended_on p.part.channel k ns xs && int_eq (steps k) p.steps) 128 ≡ some_ended (is_of_pair o table p) ns xs
by_pairs o table p steps ns xs one low same =
    by_keys p.part.channel (λ k. int_eq (steps k) p.steps) ns xs low
    ∙ some_ended_same (is_of_key p.part.channel (λ k. int_eq (steps k) p.steps)) (is_of_pair o table p) ns xs
    (agree ns (all_found 1 p.part.channel ns one) low)
  where
    alike : (n : Note) → IsFound 1 p.part.channel ns n → n.key < 128 → (a : Bool) → nat_eq n.channel p.part.channel ≡ a → sounds n ≡ true
        → (a && int_eq (steps n.key) p.steps) ≡ (a && int_eq (steps_in o table n) p.steps)
    alike n found l false e s = refl
    alike n found l true e s =
        (let f = found (and_from (is_at p.part.channel n.key n) (sounds n)
        (and_from (nat_eq n.channel p.part.channel) (nat_eq n.key n.key) e (eq-eqb n.key n.key refl)) s) in
        ap (λ q. int_eq q p.steps) (same n.key (f.0, n) l f.1))

    agree : (l : List Note) → AllByRecursion (IsFound 1 p.part.channel ns) l → AllByRecursion (λ n. n.key < 128) l
        → AllByRecursion (λ n. sounds n ≡ true → is_of_key p.part.channel (λ k. int_eq (steps k) p.steps) n ≡ is_of_pair o table p n) l
    agree [] f h = tt
    agree (n ∷ l) f h = (alike n f.0 h.0 (nat_eq n.channel p.part.channel) refl, agree l f.1 h.1)
