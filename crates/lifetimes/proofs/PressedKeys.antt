-- The pressures that a pair's channel has: key by key, as the program gives them and as they are wanted.
use Rattle.std.proofs.Common.{◌≡◌, ◌≢◌, ◌<◌, ◌∙◌, ℕ, zero, suc, List, [], ◌∷◌, Bool, true, false, cond, ◌&&◌, nat_eq, nat_lt, Option, Some, None, length, get_or, set, refl, sym, ap, arith, inl, inr}
use Rattle.std.specs.Prelude.{◌⊎◌}
use Rattle.std.specs.List.{AllByRecursion}
use Rattle.std.proofs.lemmas.Bool.{lt-ltb}
use Rattle.std.proofs.lemmas.Bool.Decides.{eqb_tells}
use Rattle.std.proofs.lemmas.List.{get_or-set_same, get_or-set_other, length-set, get_or-replicate}
use Rattle.midi_model.specs.Notes.{Note}
use Rattle.retune_model.specs.Table.{BendTarget}
use Rattle.retune_model.specs.Options.{Options}
use Rattle.retune_model.specs.Faults.{Targets, target_of}
use Rattle.retune_model.specs.Pairs.{Pair}
use Rattle.channel_model.specs.Choice.{has_pair, key_set, wanted_keys}
use Rattle.lifetimes.specs.Lists.{no_note}
use Rattle.lifetimes.specs.Pressing.{pressed_by, pressed_by_all}
use Rattle.lifetimes.specs.declared.notes.Sounding.{Sounding}

-- ---- as the program gives them

pressed_long : (ps : List ℕ) (x : Sounding) (keys : List ℕ) → length (pressed_by ps x keys) ≡ length keys
pressed_long ps x keys = pick (nat_lt x.key 128 && nat_lt x.target 128)
  where
    pick : (b : Bool) → length (cond b (set keys x.target (get_or ps x.key 0)) keys) ≡ length keys
    pick true = length-set keys x.target (get_or ps x.key 0)
    pick false = refl

pub pressed_all_long : (ps : List ℕ) (xs : List Sounding) (keys : List ℕ) → length (pressed_by_all ps xs keys) ≡ length keys
pressed_all_long ps [] keys = refl
pressed_all_long ps (x ∷ xs) keys = pressed_all_long ps xs (pressed_by ps x keys) ∙ pressed_long ps x keys

pressed_here : (ps : List ℕ) (x : Sounding) (keys : List ℕ) (k : ℕ) → length keys ≡ 128 → k < 128 → x.key < 128 → x.target ≡ k
    → get_or (pressed_by ps x keys) k 0 ≡ get_or ps x.key 0
pressed_here ps x keys k long low key same =
    ap (λ b. get_or (cond b (set keys x.target (get_or ps x.key 0)) keys) k 0)
    (ap (λ b. b && nat_lt x.target 128) (lt-ltb x.key 128 key) ∙ lt-ltb x.target 128 (omega (arith, same, low)))
    ∙ (ap (λ j. get_or (set keys x.target (get_or ps x.key 0)) j 0) (sym same) ∙ get_or-set_same keys x.target (get_or ps x.key 0) 0 (omega (arith, long, same, low)))

pressed_elsewhere : (ps : List ℕ) (x : Sounding) (keys : List ℕ) (k : ℕ) → x.target ≢ k → get_or (pressed_by ps x keys) k 0 ≡ get_or keys k 0
pressed_elsewhere ps x keys k other = pick (nat_lt x.key 128 && nat_lt x.target 128)
  where
    pick : (b : Bool) → get_or (cond b (set keys x.target (get_or ps x.key 0)) keys) k 0 ≡ get_or keys k 0
    pick true = get_or-set_other keys x.target k (get_or ps x.key 0) 0 (λ e. other (sym e))
    pick false = refl

-- the pressure of a key is that of a note whose target it is; of any other it stays
abbrev pub Pressed : List ℕ → List Sounding → List ℕ → ℕ → ℕ → Type 0
Pressed ps xs keys k v =
    ((i : ℕ) × (i < length xs) × ((get_or xs i no_note).target ≡ k) × (v ≡ get_or ps (get_or xs i no_note).key 0))
    ⊎ (((i : ℕ) → i < length xs → (get_or xs i no_note).target ≢ k) × (v ≡ get_or keys k 0))

pub pressed_at : (ps : List ℕ) (xs : List Sounding) (keys : List ℕ) (k : ℕ) → length keys ≡ 128 → k < 128 → AllByRecursion (λ x. x.key < 128) xs
    → Pressed ps xs keys k (get_or (pressed_by_all ps xs keys) k 0)
pressed_at ps [] keys k long low all = inr ((λ i h e. absurd (omega (arith, h))), refl)
pressed_at ps (x ∷ xs) keys k long low all = pick (pressed_at ps xs (pressed_by ps x keys) k (pressed_long ps x keys ∙ long) low all.1)
  where
    none : ((i : ℕ) → i < length xs → (get_or xs i no_note).target ≢ k) → x.target ≢ k → (i : ℕ) → i < length (x ∷ xs)
        → (get_or (x ∷ xs) i no_note).target ≢ k
    none h other zero l = other
    none h other (suc i) l = h i (omega (arith, l))

    pick : Pressed ps xs (pressed_by ps x keys) k (get_or (pressed_by_all ps xs (pressed_by ps x keys)) k 0)
        → Pressed ps (x ∷ xs) keys k (get_or (pressed_by_all ps xs (pressed_by ps x keys)) k 0)
    pick (inl r) = inl (suc r.0, (let l = r.1 in omega (arith, l)), r.2, r.3)
    pick (inr r) = elim (eqb_tells x.target k) [
      | inl t ↦ inl (zero, omega arith, t.1, r.1 ∙ pressed_here ps x keys k long low all.0 t.1)
      | inr t ↦ inr (none r.0 t.1, r.1 ∙ pressed_elsewhere ps x keys k t.1)
    ]

-- ---- as they are wanted

-- whether a note is of the pair and its target is the key
abbrev pub aims_at : Pair → ℕ → Note → Option BendTarget → Bool
aims_at p k n (Some t) = has_pair p n (Some t) && nat_eq t.key k
aims_at p k n None = false

-- the pressure of the first such note
abbrev pub pressure_aimed : Options → Targets → Pair → ℕ → List Note → ℕ
pressure_aimed o table p k [] = 0
pressure_aimed o table p k (n ∷ ns) = cond (aims_at p k n (target_of o table n)) n.pressure (pressure_aimed o table p k ns)

set_long : (keys : List ℕ) (t : Option BendTarget) (v : ℕ) → length (key_set keys t v) ≡ length keys
set_long keys (Some t) v = length-set keys t.key v
set_long keys None v = refl

pub wanted_long : (o : Options) (table : Targets) (p : Pair) (ns : List Note) → length (wanted_keys o table p ns) ≡ 128
wanted_long o table p [] = refl
wanted_long o table p (n ∷ ns) = pick (has_pair p n (target_of o table n)) (wanted_long o table p ns)
  where
    pick : (b : Bool) → length (wanted_keys o table p ns) ≡ 128
        → length (cond b (key_set (wanted_keys o table p ns) (target_of o table n) n.pressure) (wanted_keys o table p ns)) ≡ 128
    pick true e = set_long (wanted_keys o table p ns) (target_of o table n) n.pressure ∙ e
    pick false e = e

pub wanted_at : (o : Options) (table : Targets) (p : Pair) (k : ℕ) (ns : List Note) → k < 128
    → get_or (wanted_keys o table p ns) k 0 ≡ pressure_aimed o table p k ns
wanted_at o table p k [] low = get_or-replicate 128 k 0 0 low
wanted_at o table p k (n ∷ ns) low = pick (target_of o table n) (wanted_at o table p k ns low) (wanted_long o table p ns)
  where
    at : (keys : List ℕ) (t : BendTarget) → length keys ≡ 128
        → get_or (set keys t.key n.pressure) k 0 ≡ cond (nat_eq t.key k) n.pressure (get_or keys k 0)
    at keys t long = elim (eqb_tells t.key k) [
      | inl e ↦ ap (λ j. get_or (set keys t.key n.pressure) j 0) (sym e.1) ∙ (get_or-set_same keys t.key n.pressure 0 (let s = e.1 in omega (arith, long, s, low)) ∙ sym (ap (λ b. cond b n.pressure (get_or keys k 0)) e.0))
      | inr e ↦ get_or-set_other keys t.key k n.pressure 0 (λ s. e.1 (sym s)) ∙ sym (ap (λ b. cond b n.pressure (get_or keys k 0)) e.0)
    ]

    by : (b : Bool) (keys : List ℕ) (t : BendTarget) → length keys ≡ 128 → get_or keys k 0 ≡ pressure_aimed o table p k ns
        → get_or (cond b (set keys t.key n.pressure) keys) k 0 ≡ cond (b && nat_eq t.key k) n.pressure (pressure_aimed o table p k ns)
    by true keys t long e = at keys t long ∙ ap (cond (nat_eq t.key k) n.pressure) e
    by false keys t long e = e

    pick : (t : Option BendTarget) → get_or (wanted_keys o table p ns) k 0 ≡ pressure_aimed o table p k ns → length (wanted_keys o table p ns) ≡ 128
        → get_or (cond (has_pair p n t) (key_set (wanted_keys o table p ns) t n.pressure) (wanted_keys o table p ns)) k 0
        ≡ cond (aims_at p k n t) n.pressure (pressure_aimed o table p k ns)
    pick (Some t) e long = by (has_pair p n (Some t)) (wanted_keys o table p ns) t long e
    pick None e long = e
