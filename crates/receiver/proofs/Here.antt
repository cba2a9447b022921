-- The note on one key of one channel, when one channel changes, and when a change reaches some notes only.
use Rattle.std.proofs.Common.{◌≡◌, ℕ, zero, suc, ◌<◌, List, [], ◌∷◌, Bool, true, false, cond, nat_eq, Option, Some, None, refl, ap, sym, subst, inl, inr, ◌≢◌, ◌∙◌, map, set, get_or, length, arith}
use Rattle.std.proofs.lemmas.List.{map-set, get_or-set_same, get_or-set_other, get_or-map, length-map, set-get_or}
use Rattle.std.proofs.lemmas.Bool.Decides.{eqb_tells}
use Rattle.midi_model.specs.Notes.{Note, sounds}
use Rattle.receiver.specs.Notes.{note_of, Told}
use Rattle.receiver.specs.Heard.{heard_by, heard}
use Rattle.receiver.specs.Turns.{kept}
use Rattle.receiver.specs.declared.playing.Playing.{Playing}

abbrev pub Slot : Type 0
Slot = Option (ℕ × Note)

-- what sounds on key k of channel c
abbrev pub slot_in : List Playing → ℕ → ℕ → Slot
slot_in xs c k = get_or (map (λ s. heard c s k) xs) c None

-- a note that sounds on key k of channel c, or none
abbrev pub IsHere : ℕ → ℕ → Slot → Type 0
IsHere c k None = Unit {0}
IsHere c k (Some x) = (x.1.channel ≡ c) × (x.1.key ≡ k) × (sounds x.1 ≡ true)

here_by : (c k p : ℕ) (o : Option Told) → IsHere c k (heard_by c k p o)
here_by c k p None = tt
here_by c k p (Some n) = (refl, refl, refl)

here_at : (xs : List Playing) (c k i : ℕ) → IsHere c k (get_or (map (λ s. heard c s k) xs) i None)
here_at [] c k i = tt
here_at (x ∷ xs) c k zero = here_by c k _ (note_of x.keys k)
here_at (x ∷ xs) c k (suc i) = here_at xs c k i

pub slot_here : (xs : List Playing) (c k : ℕ) → IsHere c k (slot_in xs c k)
slot_here xs c k = here_at xs c k c

-- a change that reaches some notes reaches this one or not
pub kept_where : (c k : ℕ) (o : Slot) → IsHere c k o → (test : Note → Bool) (b : Bool) (f : Note → Note)
    → ((n : Note) → n.channel ≡ c → n.key ≡ k → sounds n ≡ true → test n ≡ b)
    → kept (λ n. cond (test n) (f n) n) o ≡ cond b (kept f o) o
kept_where c k None h test true f e = refl
kept_where c k None h test false f e = refl
kept_where c k (Some x) h test b f e = rw (e x.1 h.0 h.1 h.2) (pick b)
  where
    pick : (a : Bool) → kept (λ n. cond a (f n) n) (Some x) ≡ cond a (kept f (Some x)) (Some x)
    pick true = refl
    pick false = rw h.2 refl

-- one channel changes
slot_same : (xs : List Playing) (i k : ℕ) (y : Playing) → i < length xs → slot_in (set xs i y) i k ≡ heard i y k
slot_same xs i k y low =
    let f : Playing → Slot = λ s. heard i s k in
    ap (λ l. get_or l i None) (map-set f xs i y) ∙ get_or-set_same (map f xs) i (f y) None (let e = length-map xs f in omega (arith, e, low))

slot_other : (xs : List Playing) (i c k : ℕ) (y : Playing) → c ≢ i → slot_in (set xs i y) c k ≡ slot_in xs c k
slot_other xs i c k y apart =
    let f : Playing → Slot = λ s. heard c s k in
    ap (λ l. get_or l c None) (map-set f xs i y) ∙ get_or-set_other (map f xs) i c (f y) None apart

pub slot_set : (xs : List Playing) (i : ℕ) (y d : Playing) (G : ℕ → ℕ → Slot → Slot) → i < length xs
    → ((c k : ℕ) → k < 128 → heard c y k ≡ G c k (heard c (get_or xs i d) k))
    → (c k : ℕ) → k < 128 → slot_in (set xs i y) c k ≡ cond (nat_eq c i) (G c k (slot_in xs c k)) (slot_in xs c k)
slot_set xs i y d G low h c k kl =
    elim (eqb_tells c i) [
      | inl t ↦ (let P : ℕ → Type 0 = λ e. slot_in (set xs i y) e k ≡ G e k (slot_in xs e k) in
          rw t.0 (subst P (sym t.1) (slot_same xs i k y low ∙ h i k kl ∙ ap (G i k) (sym (get_or-map (λ s. heard i s k) xs i d None low)))))
      | inr t ↦ rw t.0 (slot_other xs i c k y t.1)
    ]

get_or-map_default : {B : Type 0} (f : Playing → B) (xs : List Playing) (i : ℕ) (d : Playing) → get_or (map f xs) i (f d) ≡ f (get_or xs i d)
get_or-map_default f [] i d = refl
get_or-map_default f (x ∷ xs) zero d = refl
get_or-map_default f (x ∷ xs) (suc i) d = get_or-map_default f xs i d

-- what one channel has, seen in the list of all
pub map_changed : {B : Type 0} (f : Playing → B) (xs : List Playing) (i : ℕ) (y : Playing) (v : B) → f y ≡ v → map f (set xs i y) ≡ set (map f xs) i v
map_changed f xs i y v e = map-set f xs i y ∙ ap (set (map f xs) i) e

pub map_same : {B : Type 0} (f : Playing → B) (xs : List Playing) (i : ℕ) (y d : Playing) → f y ≡ f (get_or xs i d) → map f (set xs i y) ≡ map f xs
map_same f xs i y d e = map_changed f xs i y (get_or (map f xs) i (f d)) (e ∙ sym (get_or-map_default f xs i d)) ∙ set-get_or (map f xs) i (f d)
