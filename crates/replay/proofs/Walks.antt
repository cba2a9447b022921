-- The differences of two lists, place by place and from one place on.
use Rattle.std.proofs.Common.{◌≡◌, ◌≢◌, ℕ, zero, suc, ◌+◌, ◌≤◌, ◌<◌, ◌-◌, List, [], ◌∷◌, ◌++◌, cond, refl, ap, sym, ◌∙◌, arith, length, get_or, drop, length-drop}
use Rattle.std.proofs.lemmas.Bool.{ne_eqb, eq-eqb}
use Rattle.std.proofs.lemmas.List.{append-nil, append_assoc, drop_more}
use Rattle.mt_base.specs.declared.event.Msg.{Msg}
use Rattle.mt_base.specs.declared.event.Msg.TheVariants.{KeyPressure, Control}
use Rattle.midi_model.specs.Bring.{where_differs, bring_controls, bring_keys}
use Rattle.replay.specs.declared.tables.Kind.{Kind}
use Rattle.replay.specs.declared.tables.Kind.TheVariants.{Controllers, KeyPressures}
use Rattle.replay.specs.Tables.{message_of, differences}

-- from place k on, at which both lists begin
abbrev walk : (ℕ → ℕ → Msg) → ℕ → List ℕ → List ℕ → List Msg
walk f k (x ∷ xs) (y ∷ ys) = where_differs x y (f k y) ++ walk f (k + 1) xs ys
walk f k _ _ = []

-- at the first places
abbrev pub upto : Kind → ℕ → List ℕ → List ℕ → ℕ → List Msg
upto kind c xs ys zero = []
upto kind c xs ys (suc i) = upto kind c xs ys i ++ where_differs (get_or xs i 0) (get_or ys i 0) (message_of kind c i (get_or ys i 0))

-- behind them
abbrev pub behind : Kind → ℕ → List ℕ → List ℕ → ℕ → List Msg
behind kind c xs ys i = walk (message_of kind c) i (drop i xs) (drop i ys)

controls_walk : (c k : ℕ) (xs ys : List ℕ) → walk (Control c) k xs ys ≡ bring_controls c k xs ys
controls_walk c k [] ys = refl
controls_walk c k (x ∷ xs) [] = refl
controls_walk c k (x ∷ xs) (y ∷ ys) = ap (λ r. where_differs x y (Control c k y) ++ r) (controls_walk c (k + 1) xs ys)

keys_walk : (c k : ℕ) (xs ys : List ℕ) → walk (KeyPressure c) k xs ys ≡ bring_keys c k xs ys
keys_walk c k [] ys = refl
keys_walk c k (x ∷ xs) [] = refl
keys_walk c k (x ∷ xs) (y ∷ ys) = ap (λ r. where_differs x y (KeyPressure c k y) ++ r) (keys_walk c (k + 1) xs ys)

all_behind : (kind : Kind) (c : ℕ) (xs ys : List ℕ) → behind kind c xs ys 0 ≡ differences kind c xs ys
all_behind Controllers c xs ys = controls_walk c 0 xs ys
all_behind KeyPressures c xs ys = keys_walk c 0 xs ys

-- one more place
next_behind : (kind : Kind) (c : ℕ) (xs ys : List ℕ) (i : ℕ) → i < length xs → i < length ys
    → where_differs (get_or xs i 0) (get_or ys i 0) (message_of kind c i (get_or ys i 0)) ++ behind kind c xs ys (i + 1) ≡ behind kind c xs ys i
next_behind kind c xs ys i low under =
    sym (ap (λ l. walk (message_of kind c) i l (drop i ys)) (drop_more xs i 0 low) ∙ ap (λ l. walk (message_of kind c) i (get_or xs i 0 ∷ drop (i + 1) xs) l) (drop_more ys i 0 under))

pub whole : (kind : Kind) (c : ℕ) (xs ys : List ℕ) (i : ℕ) → i ≤ length xs → i ≤ length ys
    → upto kind c xs ys i ++ behind kind c xs ys i ≡ differences kind c xs ys
whole kind c xs ys zero low under = all_behind kind c xs ys
whole kind c xs ys (suc i) low under =
    let d : List Msg = where_differs (get_or xs i 0) (get_or ys i 0) (message_of kind c i (get_or ys i 0)) in
    let one : i + 1 ≡ suc i = omega arith in
    append_assoc (upto kind c xs ys i) d (behind kind c xs ys (suc i))
    ∙ ap (λ l. upto kind c xs ys i ++ l) (ap (λ j. d ++ behind kind c xs ys j) (sym one) ∙ next_behind kind c xs ys i (omega (arith, low)) (omega (arith, under)))
    ∙ whole kind c xs ys i (omega (arith, low)) (omega (arith, under))

same_written : (x y : ℕ) (m : Msg) → x ≡ y → where_differs x y m ≡ []
same_written x y m e = ap (λ b. cond b [] (m ∷ [])) (eq-eqb x y e)

other_written : (x y : ℕ) (m : Msg) → x ≢ y → where_differs x y m ≡ m ∷ []
other_written x y m e = ap (λ b. cond b [] (m ∷ [])) (ne_eqb x y e)

-- places that are equal give nothing
pub skip : (kind : Kind) (c : ℕ) (xs ys : List ℕ) (i n : ℕ) → ((k : ℕ) → i ≤ k → k < i + n → get_or xs k 0 ≡ get_or ys k 0)
    → upto kind c xs ys (i + n) ≡ upto kind c xs ys i
skip kind c xs ys i zero h = let e : i + 0 ≡ i = omega arith in ap (upto kind c xs ys) e
skip kind c xs ys i (suc n) h =
    let e : i + suc n ≡ suc (i + n) = omega arith in
    ap (upto kind c xs ys) e
    ∙ ap (λ l. upto kind c xs ys (i + n) ++ l) (same_written (get_or xs (i + n) 0) (get_or ys (i + n) 0) (message_of kind c (i + n) (get_or ys (i + n) 0)) (h (i + n) (omega arith) (omega arith)))
    ∙ append-nil (upto kind c xs ys (i + n))
    ∙ skip kind c xs ys i n (λ k low under. h k low (omega (arith, under)))

-- the next place that differs
pub found : (kind : Kind) (c : ℕ) (xs ys : List ℕ) (i j : ℕ) → i ≤ j → ((k : ℕ) → i ≤ k → k < j → get_or xs k 0 ≡ get_or ys k 0)
    → get_or xs j 0 ≢ get_or ys j 0 → upto kind c xs ys (j + 1) ≡ upto kind c xs ys i ++ message_of kind c j (get_or ys j 0) ∷ []
found kind c xs ys i j low same differs =
    let e : j + 1 ≡ suc j = omega arith in
    let n : ℕ = j - i in
    let f : i + n ≡ j = omega (arith, low) in
    ap (upto kind c xs ys) e
    ∙ ap (λ l. upto kind c xs ys j ++ l) (other_written (get_or xs j 0) (get_or ys j 0) (message_of kind c j (get_or ys j 0)) differs)
    ∙ ap (λ l. l ++ message_of kind c j (get_or ys j 0) ∷ []) (ap (upto kind c xs ys) (sym f) ∙ skip kind c xs ys i n (λ k a b. same k a (omega (arith, b, f))))

-- none differs any more
pub none_behind : (kind : Kind) (c : ℕ) (xs ys : List ℕ) (i : ℕ) → i ≤ length xs → length ys ≡ length xs
    → ((k : ℕ) → i ≤ k → k < length xs → get_or xs k 0 ≡ get_or ys k 0) → upto kind c xs ys i ≡ differences kind c xs ys
none_behind kind c xs ys i low sized same =
    let n : ℕ = length xs - i in
    let f : i + n ≡ length xs = omega (arith, low) in
    let none : behind kind c xs ys (length xs) ≡ [] =
    ended (drop (length xs) xs) (drop (length xs) ys) (omega (arith, length-drop (length xs) xs)) in
    sym (ap (upto kind c xs ys) (sym f) ∙ skip kind c xs ys i n (λ k a b. same k a (omega (arith, b, f))))
    ∙ sym (append-nil (upto kind c xs ys (length xs)))
    ∙ ap (λ l. upto kind c xs ys (length xs) ++ l) (sym none)
    ∙ whole kind c xs ys (length xs) (omega arith) (omega (arith, sized))
  where
    ended : (us bs : List ℕ) → length us ≡ 0 → walk (message_of kind c) (length xs) us bs ≡ []
    ended [] bs e = refl
    ended (a ∷ us) bs e = absurd (omega (arith, e))
