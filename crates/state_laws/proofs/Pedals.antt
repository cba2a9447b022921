-- What the pedals and the key pressures do to one note, and when nothing is left to settle.
use Rattle.std.proofs.Common.{◌≡◌, ◌≢◌, inl, inr, ℕ, zero, suc, ◌+◌, ◌<◌, List, [], ◌∷◌, Bool, true, false, cond, ◌&&◌, not, nat_eq, nat_le, nat_lt, Option, Some, None, refl, ap, sym, ◌∙◌, arith, length, map, set, get_or, drop}
use Rattle.std.specs.Prelude.{is_some, unwrap_or}
use Rattle.std.proofs.lemmas.Bool.{cases_eq, cases_Bool, and_parts, and_left, and_right, eq-eqb, ne_eqb, true≢false, false≢true, not-true}
use Rattle.std.proofs.lemmas.Bool.Decides.{nat_tests}
use Rattle.std.proofs.lemmas.List.{get_or-set_same, get_or-set_other}
use Rattle.midi_model.specs.Channel.{Channel, default_channel, control_of}
use Rattle.midi_model.specs.Zones.{Zones, no_zones, governor}
use Rattle.midi_model.specs.Notes.{Note, sounds, is_down, is_at, is_pedal_down, ending, with_pressure, sostenuto}
use Rattle.midi_model.specs.Music.{pedal, settle_note}
use Rattle.state_laws.specs.Heard.{let_go, pedalled, pressed}

-- ---- lists

pub map_same : {A : Type 0} (f g : A → A) (xs : List A) → ((x : A) → f x ≡ g x) → map f xs ≡ map g xs
map_same f g [] h = refl
map_same f g (x ∷ xs) h = rw (h x, map_same f g xs h) refl

pub map_then : {A : Type 0} (f g : A → A) (xs : List A) → map f (map g xs) ≡ map (λ x. f (g x)) xs
map_then f g [] = refl
map_then f g (x ∷ xs) = ap (λ r. f (g x) ∷ r) (map_then f g xs)

pub map_none : {A : Type 0} (f : A → A) (xs : List A) → ((x : A) → f x ≡ x) → map f xs ≡ xs
map_none f [] h = refl
map_none f (x ∷ xs) h = rw (h x, map_none f xs h) refl

-- ---- zones

pub own_governor : (d : ℕ) → governor no_zones d ≡ d
own_governor d =
    let a : (nat_le 1 d && nat_le d 0) ≡ false = grind (arith, nat_tests) in
    let b : (nat_le 15 d && nat_lt d 15) ≡ false = grind (arith, nat_tests) in
    by (nat_le 1 d && nat_le d 0) (nat_le 15 d && nat_lt d 15) a b
  where
    by : (x y : Bool) → x ≡ false → y ≡ false → unwrap_or (cond x (Some 0) (cond y (Some 15) None)) d ≡ d
    by false false e f = refl
    by true y e f = absurd (true≢false e)
    by false true e f = absurd (true≢false f)

-- ---- settling

-- the hold pedal that a note listens to, where this channel's has the value v
abbrev pub hold_by : List Channel → ℕ → ℕ → Note → ℕ
hold_by ss c v n = cond (nat_eq n.channel c) v (control_of (get_or ss n.channel default_channel) 64)

abbrev pub settled_by : ℕ → List Channel → ℕ → ℕ → Note → Note
settled_by t ss c v n = let_go t (hold_by ss c v n) n

pub pedal_is : (ss : List Channel) (c : ℕ) (s : Channel) (n : Note) → c < length ss
    → pedal (set ss c s) no_zones n ≡ hold_by ss c (control_of s 64) n
pedal_is ss c s n low = ap (λ d. control_of (get_or (set ss c s) d default_channel) 64) (own_governor n.channel) ∙ (elim (cases_eq n.channel c) [
  | inl e ↦ ap (λ d. control_of (get_or (set ss c s) d default_channel) 64) e ∙ ap (λ x. control_of x 64) (get_or-set_same ss c s default_channel low)
      ∙ ap (λ b. cond b (control_of s 64) (control_of (get_or ss n.channel default_channel) 64)) (sym (eq-eqb n.channel c e))
  | inr e ↦ ap (λ x. control_of x 64) (get_or-set_other ss c n.channel s default_channel e)
      ∙ ap (λ b. cond b (control_of s 64) (control_of (get_or ss n.channel default_channel) 64)) (sym (ne_eqb n.channel c e))
])

pub settle_is : (t : ℕ) (ss : List Channel) (c : ℕ) (s : Channel) (n : Note) → c < length ss
    → settle_note (set ss c s) no_zones t n ≡ settled_by t ss c (control_of s 64) n
settle_is t ss c s n low = ap (λ v. let_go t v n) (pedal_is ss c s n low)

-- whether nothing holds a note
abbrev pub is_free : ℕ → Note → Bool
is_free hold n = is_some n.release && (not n.captured && not (is_pedal_down hold))

-- ending changes only the end
pub ending_keeps : {A : Type 0} (f : Note → A) (t : ℕ) (n : Note)
    → ((e : Option ℕ) → (let x : Note = record n { ended = e } in f x ≡ f n)) → f (ending t n) ≡ f n
ending_keeps f t n h = pick (sounds n)
  where
    pick : (b : Bool) → f (cond b (record n { ended = Some t }) n) ≡ f n
    pick true = h (Some t)
    pick false = refl

pub let_go_keeps : {A : Type 0} (f : Note → A) (t hold : ℕ) (n : Note)
    → ((e : Option ℕ) → (let x : Note = record n { ended = e } in f x ≡ f n)) → f (let_go t hold n) ≡ f n
let_go_keeps f t hold n h = pick (is_free hold n)
  where
    pick : (b : Bool) → f (cond b (ending t n) n) ≡ f n
    pick true = ending_keeps f t n h
    pick false = refl

pub hold_settled : (t : ℕ) (ss : List Channel) (c v w : ℕ) (n : Note) → hold_by ss c w (settled_by t ss c v n) ≡ hold_by ss c w n
hold_settled t ss c v w n = let_go_keeps (hold_by ss c w) t (hold_by ss c v n) n (λ e. refl)

pub free_settled : (t : ℕ) (ss : List Channel) (c v : ℕ) (n : Note)
    → is_free (hold_by ss c v (settled_by t ss c v n)) (settled_by t ss c v n) ≡ is_free (hold_by ss c v n) n
free_settled t ss c v n = let_go_keeps (λ x. is_free (hold_by ss c v x) x) t (hold_by ss c v n) n (λ e. refl)

ending_twice : (t : ℕ) (n : Note) → ending t (ending t n) ≡ ending t n
ending_twice t n = pick (sounds n) refl
  where
    pick : (b : Bool) → sounds n ≡ b → ending t (cond b (record n { ended = Some t }) n) ≡ cond b (record n { ended = Some t }) n
    pick true e = refl
    pick false e = ap (λ x. cond x (record n { ended = Some t }) n) e

pub settled_twice : (t : ℕ) (ss : List Channel) (c v : ℕ) (n : Note)
    → settled_by t ss c v (settled_by t ss c v n) ≡ settled_by t ss c v n
settled_twice t ss c v n = pick (is_free (hold_by ss c v n) n) refl
  where
    free_ending : is_free (hold_by ss c v (ending t n)) (ending t n) ≡ is_free (hold_by ss c v n) n
    free_ending = ending_keeps (λ x. is_free (hold_by ss c v x) x) t n (λ e. refl)

    pick : (b : Bool) → is_free (hold_by ss c v n) n ≡ b → settled_by t ss c v (cond b (ending t n) n) ≡ cond b (ending t n) n
    pick true e = ap (λ x. cond x (ending t (ending t n)) (ending t n)) (free_ending ∙ e) ∙ ending_twice t n
    pick false e = ap (λ x. cond x (ending t n) n) e

-- nothing is left to settle
abbrev pub Calm : ℕ → List Channel → ℕ → ℕ → List Note → Type 0
Calm t ss c v [] = Unit {0}
Calm t ss c v (n ∷ ns) = (settled_by t ss c v n ≡ n) × Calm t ss c v ns

pub calm_map : (t : ℕ) (ss : List Channel) (c v : ℕ) (ns : List Note) → Calm t ss c v ns → map (settled_by t ss c v) ns ≡ ns
calm_map t ss c v [] h = refl
calm_map t ss c v (n ∷ ns) h = rw (h.0, calm_map t ss c v ns h.1) refl

pub calm_from : (t : ℕ) (ss : List Channel) (c v : ℕ) (ns : List Note) → map (settled_by t ss c v) ns ≡ ns → Calm t ss c v ns
calm_from t ss c v [] h = tt
calm_from t ss c v (n ∷ ns) h = (ap (λ l. get_or l 0 n) h, calm_from t ss c v ns (ap (λ l. drop 1 l) h))

pub calm_after : (t : ℕ) (ss : List Channel) (c v : ℕ) (ns : List Note) → Calm t ss c v (map (settled_by t ss c v) ns)
calm_after t ss c v [] = tt
calm_after t ss c v (n ∷ ns) = (settled_twice t ss c v n, calm_after t ss c v ns)

-- ---- sostenuto

pub sostenuto_same : (z : Zones) (c a : ℕ) (n : Note) → sostenuto z c a a n ≡ n
sostenuto_same z c a n = pick (nat_eq (governor z n.channel) c && sounds n) (is_pedal_down a)
  where
    pick : (x d : Bool)
        → cond x (cond d (cond d n (record n { captured = false })) (cond (d && is_down n) (record n { captured = true }) n)) n ≡ n
    pick true true = refl
    pick true false = refl
    pick false d = refl

pub sostenuto_keeps : {A : Type 0} (f : Note → A) (z : Zones) (c a b : ℕ) (n : Note)
    → ((d : Bool) → (let x : Note = record n { captured = d } in f x ≡ f n)) → f (sostenuto z c a b n) ≡ f n
sostenuto_keeps f z c a b n h = pick (nat_eq (governor z n.channel) c && sounds n) (is_pedal_down a) (is_pedal_down b) (is_pedal_down b && is_down n)
  where
    pick : (x d e g : Bool)
        → f (cond x (cond d (cond e n (record n { captured = false })) (cond g (record n { captured = true }) n)) n) ≡ f n
    pick true true true g = refl
    pick true true false g = h false
    pick true false e true = h true
    pick true false e false = refl
    pick false d e g = refl

-- a note that nothing holds isn't captured
sostenuto_free : (z : Zones) (c a b hold : ℕ) (n : Note) → is_free hold n ≡ true → sostenuto z c a b n ≡ n
sostenuto_free z c a b hold n e =
    let t = and_parts (is_some n.release) (not n.captured && not (is_pedal_down hold)) e in
    let u = and_parts (not n.captured) (not (is_pedal_down hold)) t.1 in
    let k : n.captured ≡ false = not-true n.captured u.0 in
    let d : is_down n ≡ false = and_right (sounds n) (not (is_some n.release)) (ap not t.0) in
    pick (nat_eq (governor z n.channel) c && sounds n) (is_pedal_down a) (is_pedal_down b) (is_pedal_down b && is_down n) k (and_right (is_pedal_down b) (is_down n) d)
  where
    pick : (x d e g : Bool) → n.captured ≡ false → g ≡ false
        → cond x (cond d (cond e n (record n { captured = false })) (cond g (record n { captured = true }) n)) n ≡ n
    pick true true true g k f = refl
    pick true true false g k f = ap (λ b. record n { captured = b }) (sym k)
    pick true false e true k f = absurd (true≢false f)
    pick true false e false k f = refl
    pick false d e g k f = refl

-- to settle first makes no difference
pub settled_first : (t : ℕ) (ss : List Channel) (c v a b : ℕ) (n : Note)
    → settled_by t ss c v (sostenuto no_zones c a b (settled_by t ss c v n)) ≡ settled_by t ss c v (sostenuto no_zones c a b n)
settled_first t ss c v a b n = elim (cases_Bool (is_free (hold_by ss c v n) n)) [
  | inl e ↦
      ap (settled_by t ss c v) (sostenuto_free no_zones c a b (hold_by ss c v (settled_by t ss c v n)) (settled_by t ss c v n) (free_settled t ss c v n ∙ e))
      ∙ settled_twice t ss c v n ∙ sym (ap (settled_by t ss c v) (sostenuto_free no_zones c a b (hold_by ss c v n) n e))
  | inr e ↦ ap (λ x. settled_by t ss c v (sostenuto no_zones c a b x)) (ap (λ x. cond x (ending t n) n) e)
]

-- both pedals, seen from one note
pub stroke_is : (t : ℕ) (ss : List Channel) (c : ℕ) (now wanted : Channel) (n : Note)
    → settled_by t ss c (control_of now 64) n ≡ n
    → settled_by t ss c (control_of wanted 64) (sostenuto no_zones c (control_of now 66) (control_of wanted 66) n) ≡ pedalled t c now wanted n
stroke_is t ss c now wanted n h =
    let a : ℕ = control_of now 66 in
    let b : ℕ = control_of wanted 66 in
    let v : ℕ = control_of wanted 64 in
    ap (λ x. let_go t x (sostenuto no_zones c a b n)) (sostenuto_keeps (hold_by ss c v) no_zones c a b n (λ d. refl))
    ∙ pick (nat_eq n.channel c) refl
  where
    pick : (x : Bool) → nat_eq n.channel c ≡ x
        → (let m : Note = sostenuto no_zones c (control_of now 66) (control_of wanted 66) n in
        let_go t (cond x (control_of wanted 64) (control_of (get_or ss n.channel default_channel) 64)) m ≡ cond x (let_go t (control_of wanted 64) m) n)
    pick true e = refl
    pick false e =
        let g : nat_eq (governor no_zones n.channel) c ≡ false = ap (λ d. nat_eq d c) (own_governor n.channel) ∙ e in
        let w : (nat_eq (governor no_zones n.channel) c && sounds n) ≡ false = and_left (nat_eq (governor no_zones n.channel) c) (sounds n) g in
        ap (let_go t (control_of (get_or ss n.channel default_channel) 64)) (ap (λ x. cond x (cond (is_pedal_down (control_of now 66)) (cond (is_pedal_down (control_of wanted 66)) n (record n { captured = false })) (cond (is_pedal_down (control_of wanted 66) && is_down n) (record n { captured = true }) n)) n) w)
        ∙ ap (λ x. let_go t (cond x (control_of now 64) (control_of (get_or ss n.channel default_channel) 64)) n) (sym e) ∙ h

pub strokes_are : (t : ℕ) (ss : List Channel) (c : ℕ) (now wanted : Channel) (ns : List Note) → Calm t ss c (control_of now 64) ns
    → map (settled_by t ss c (control_of wanted 64)) (map (sostenuto no_zones c (control_of now 66) (control_of wanted 66)) ns) ≡ map (pedalled t c now wanted) ns
strokes_are t ss c now wanted [] h = refl
strokes_are t ss c now wanted (n ∷ ns) h = rw (stroke_is t ss c now wanted n h.0, strokes_are t ss c now wanted ns h.1) refl

-- ---- key pressures

-- a note that sounds and is calm is held by something
pub held : (t : ℕ) (ss : List Channel) (c v : ℕ) (n : Note) → settled_by t ss c v n ≡ n → sounds n ≡ true
    → is_free (hold_by ss c v n) n ≡ false
held t ss c v n h s = elim (cases_Bool (is_free (hold_by ss c v n) n)) [
  | inl e ↦ absurd (false≢true (ap sounds (sym (ap (λ b. cond b (record n { ended = Some t }) n) s) ∙ sym (ap (λ b. cond b (ending t n) n) e) ∙ h) ∙ s))
  | inr e ↦ e
]

-- a key pressure leaves it calm
pub calm_pressure : (t : ℕ) (ss : List Channel) (c v d k y : ℕ) (n : Note) → settled_by t ss c v n ≡ n
    → settled_by t ss c v (with_pressure d k y n) ≡ with_pressure d k y n
calm_pressure t ss c v d k y n h = pick (is_at d k n && sounds n) refl
  where
    pick : (w : Bool) → (is_at d k n && sounds n) ≡ w
        → settled_by t ss c v (cond w (record n { pressure = y }) n) ≡ cond w (record n { pressure = y }) n
    pick false f = h
    pick true f =
        let s : sounds n ≡ true = (and_parts (is_at d k n) (sounds n) f).1 in
        ap (λ b. let x : Note = record n { pressure = y } in cond b (ending t x) x) (held t ss c v n h s)

pub calm_pressures : (t : ℕ) (ss : List Channel) (c v d k y : ℕ) (ns : List Note) → Calm t ss c v ns
    → Calm t ss c v (map (with_pressure d k y) ns)
calm_pressures t ss c v d k y [] h = tt
calm_pressures t ss c v d k y (n ∷ ns) h = (calm_pressure t ss c v d k y n h.0, calm_pressures t ss c v d k y ns h.1)

-- the key pressures that differ, one after another, as they act on one note
abbrev pub press : ℕ → ℕ → List ℕ → List ℕ → Note → Note
press c k (x ∷ xs) (y ∷ ys) n = press c (k + 1) xs ys (cond (nat_eq x y) n (with_pressure c k y n))
press c k _ _ n = n

pressure_keeps : {A : Type 0} (f : Note → A) (c k y : ℕ) (b : Bool) (n : Note)
    → ((p : ℕ) → (let x : Note = record n { pressure = p } in f x ≡ f n)) → f (cond b n (with_pressure c k y n)) ≡ f n
pressure_keeps f c k y b n h = pick b (is_at c k n && sounds n)
  where
    pick : (b w : Bool) → f (cond b n (cond w (record n { pressure = y }) n)) ≡ f n
    pick true w = refl
    pick false true = h y
    pick false false = refl

other_key : (c k y : ℕ) (n : Note) → n.key ≢ k → with_pressure c k y n ≡ n
other_key c k y n h =
    let e : (is_at c k n && sounds n) ≡ false =
    and_left (is_at c k n) (sounds n) (and_right (nat_eq n.channel c) (nat_eq n.key k) (ne_eqb n.key k h)) in
    ap (λ b. cond b (record n { pressure = y }) n) e

no_matter : (b : Bool) (m n : Note) → m ≡ n → cond b n m ≡ n
no_matter true m n e = refl
no_matter false m n e = e

press_past : (c k : ℕ) (xs ys : List ℕ) (n : Note) → n.key < k → press c k xs ys n ≡ n
press_past c k [] ys n h = refl
press_past c k (x ∷ xs) [] n h = refl
press_past c k (x ∷ xs) (y ∷ ys) n h =
    ap (press c (k + 1) xs ys) (no_matter (nat_eq x y) (with_pressure c k y n) n (other_key c k y n (λ e. omega (arith, h, e))))
    ∙ press_past c (k + 1) xs ys n (omega (arith, h))

abbrev pressed_by : ℕ → ℕ → ℕ → Note → Note
pressed_by c x y n = cond ((nat_eq n.channel c && sounds n) && not (nat_eq x y)) (record n { pressure = y }) n

pass : (d : Bool) (n : Note) → cond d n n ≡ n
pass true n = refl
pass false n = refl

this_key : (c k x y : ℕ) (n : Note) → n.key ≡ k → cond (nat_eq x y) n (with_pressure c k y n) ≡ pressed_by c x y n
this_key c k x y n e = pick (nat_eq n.channel c) (nat_eq n.key k) (sounds n) (nat_eq x y) (eq-eqb n.key k e)
  where
    pick : (a b s d : Bool) → b ≡ true
        → cond d n (cond ((a && b) && s) (record n { pressure = y }) n) ≡ cond ((a && s) && not d) (record n { pressure = y }) n
    pick true true true true f = refl
    pick true true true false f = refl
    pick true true false d f = pass d n
    pick false true s d f = pass d n
    pick a false s d f = absurd (false≢true f)

press_at : (c k j : ℕ) (xs ys : List ℕ) (n : Note) → n.key ≡ k + j → length xs ≡ length ys
    → press c k xs ys n ≡ pressed_by c (get_or xs j 0) (get_or ys j 0) n
press_at c k j [] [] n e l = none (nat_eq n.channel c && sounds n)
  where
    none : (a : Bool) → n ≡ cond (a && false) (record n { pressure = 0 }) n
    none true = refl
    none false = refl
press_at c k j [] (y ∷ ys) n e l = absurd (omega (arith, l))
press_at c k j (x ∷ xs) [] n e l = absurd (omega (arith, l))
press_at c k zero (x ∷ xs) (y ∷ ys) n e l =
    let f : n.key ≡ k = omega (arith, e) in
    let m : Note = cond (nat_eq x y) n (with_pressure c k y n) in
    let g : m.key ≡ n.key = pressure_keeps (λ x. x.key) c k y (nat_eq x y) n (λ p. refl) in
    press_past c (k + 1) xs ys m (omega (arith, f, g)) ∙ this_key c k x y n f
press_at c k (suc j) (x ∷ xs) (y ∷ ys) n e l =
    ap (press c (k + 1) xs ys) (no_matter (nat_eq x y) (with_pressure c k y n) n (other_key c k y n (λ f. omega (arith, e, f))))
    ∙ press_at c (k + 1) j xs ys n (omega (arith, e)) (omega (arith, l))

pub press_is : (c : ℕ) (before after : List ℕ) (n : Note) → length before ≡ length after
    → press c 0 before after n ≡ pressed c before after n
press_is c before after n l = press_at c 0 n.key before after n (omega arith) l
