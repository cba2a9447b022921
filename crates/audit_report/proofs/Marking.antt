-- Notes that end, mark by mark.
use Rattle.std.proofs.Common.{◌≡◌, ◌<◌, ◌+◌, ℕ, zero, suc, List, [], ◌∷◌, Bool, true, false, cond, not, ◌&&◌, ◌||◌, Some, length, set, refl, ap, sym, ◌∙◌, arith, inl, inr}
use Rattle.std.specs.Prelude.{map, nat_eq, nat_lt, is_some, slice_index}
use Rattle.std.proofs.lemmas.Bool.{cases_lt, cases_eq, lt-ltb, le-ltb, eqb-true, eq-eqb}
use Rattle.receiver.specs.Notes.{has}
use Rattle.audit_report.specs.declared.played.Played.{Played}
use Rattle.audit_report.specs.Audit.{is_at, is_key, keys_below, channels_below, marked, note_at}

-- ---- truth values

or_left : (a f g s : Bool) → (a && (f && s)) ≡ true → (a && ((f || g) && s)) ≡ true
or_left true true g true h = refl
or_left true true g false h = absurd cc
or_left true false g s h = absurd cc
or_left false f g s h = absurd cc

or_right : (a f g s : Bool) → (a && (f && s)) ≡ false → (a && (g && s)) ≡ (a && ((f || g) && s))
or_right true true g true h = absurd cc
or_right true true true false h = refl
or_right true true false false h = refl
or_right true false g s h = refl
or_right false f g s h = refl

never : (a g : Bool) → (a && (g && false)) ≡ false
never true true = refl
never true false = refl
never false g = refl

none_of : (a s : Bool) → (a && (false && s)) ≡ false
none_of true s = refl
none_of false s = refl

both_parts : (a x y : Bool) → ((a && x) || (a && y)) ≡ (a && (x || y))
both_parts true x y = refl
both_parts false x y = refl

and_false : (a : Bool) → (a && false) ≡ false
and_false true = refl
and_false false = refl

or_false : (a : Bool) → (a || false) ≡ a
or_false true = refl
or_false false = refl

other : (a b : ℕ) → (a ≡ b → ⊥) → nat_eq a b ≡ false
other a b h = pick (nat_eq a b) refl
  where
    pick : (x : Bool) → nat_eq a b ≡ x → x ≡ false
    pick true e = absurd (h (eqb-true a b e))
    pick false e = refl

-- ---- below one more

or_next : (P : ℕ → Bool) (c n : ℕ) → ((nat_lt c n && P c) || (nat_eq c n && P n)) ≡ (nat_lt c (n + 1) && P c)
or_next P c n = elim (cases_lt c n) [
  | inl l ↦
      ap (λ b. (b && P c) || (nat_eq c n && P n)) (lt-ltb c n l) ∙ (ap (λ b. P c || (b && P n)) (other c n (λ e. omega (arith, l, e)))
      ∙ (or_false (P c) ∙ sym (ap (λ b. b && P c) (lt-ltb c (n + 1) (omega (arith, l))))))
  | inr g ↦ elim (cases_eq c n) [
    | inl e ↦
        ap (λ b. (b && P c) || (nat_eq c n && P n)) (le-ltb c n g) ∙ (ap (λ b. b && P n) (eq-eqb c n e) ∙ (ap P (sym e)
        ∙ sym (ap (λ b. b && P c) (lt-ltb c (n + 1) (omega (arith, e))))))
    | inr d ↦
        ap (λ b. (b && P c) || (nat_eq c n && P n)) (le-ltb c n g) ∙ (ap (λ b. b && P n) (other c n d)
        ∙ sym (ap (λ b. b && P c) (le-ltb c (n + 1) (omega (arith, g, d)))))
  ]
]

-- ---- two marks

marked_twice : (z : ℕ) (f g : ℕ → ℕ → Bool) (t : ℕ) (p : Played) → marked z g t (marked z f t p) ≡ marked z (λ c k. f c k || g c k) t p
marked_twice z f g t p = pick (is_at z f p) refl
  where
    pick : (b : Bool) → is_at z f p ≡ b → marked z g t (cond b (record p { ended = Some t }) p) ≡ marked z (λ c k. f c k || g c k) t p
    pick true e =
        ap (λ x. cond x (record p { ended = Some t }) (record p { ended = Some t })) (never (nat_eq p.part.port z) (g p.part.channel p.key))
        ∙ sym (ap (λ x. cond x (record p { ended = Some t }) p) (or_left (nat_eq p.part.port z) (f p.part.channel p.key) (g p.part.channel p.key)
        (not (is_some p.ended)) e))
    pick false e = ap (λ x. cond x (record p { ended = Some t }) p) (or_right (nat_eq p.part.port z) (f p.part.channel p.key)
        (g p.part.channel p.key) (not (is_some p.ended)) e)

pub all_twice : (z : ℕ) (f g : ℕ → ℕ → Bool) (t : ℕ) (ps : List Played)
    → map (marked z g t) (map (marked z f t) ps) ≡ map (marked z (λ c k. f c k || g c k) t) ps
all_twice z f g t [] = refl
all_twice z f g t (p ∷ ps) = ap (λ x. x ∷ map (marked z g t) (map (marked z f t) ps)) (marked_twice z f g t p)
    ∙ ap (λ xs. marked z (λ c k. f c k || g c k) t p ∷ xs) (all_twice z f g t ps)

-- by the same keys
same_mark : (z : ℕ) (f g : ℕ → ℕ → Bool) (t : ℕ) → ((c k : ℕ) → f c k ≡ g c k) → (p : Played) → marked z f t p ≡ marked z g t p
same_mark z f g t same p =
    ap (λ b. cond (nat_eq p.part.port z && (b && not (is_some p.ended))) (record p { ended = Some t }) p) (same p.part.channel p.key)

pub same_marks : (z : ℕ) (f g : ℕ → ℕ → Bool) (t : ℕ) → ((c k : ℕ) → f c k ≡ g c k) → (ps : List Played)
    → map (marked z f t) ps ≡ map (marked z g t) ps
same_marks z f g t same [] = refl
same_marks z f g t same (p ∷ ps) = ap (λ x. x ∷ map (marked z f t) ps) (same_mark z f g t same p)
    ∙ ap (λ xs. marked z g t p ∷ xs) (same_marks z f g t same ps)

-- where no note is told
pub none_marked : (z : ℕ) (f : ℕ → ℕ → Bool) (t : ℕ) (ps : List Played) → ((i : ℕ) → i < length ps → is_at z f (note_at ps i) ≡ false)
    → map (marked z f t) ps ≡ ps
none_marked z f t [] none = refl
none_marked z f t (p ∷ ps) none =
    ap (λ b. cond b (record p { ended = Some t }) p ∷ map (marked z f t) ps) (none 0 (omega arith))
    ∙ ap (λ xs. p ∷ xs) (none_marked z f t ps (λ i l. none (suc i) (omega (arith, l))))

pub no_key : (z : ℕ) (f : ℕ → ℕ → Bool) (t : ℕ) (ps : List Played) → ((c k : ℕ) → f c k ≡ false) → map (marked z f t) ps ≡ ps
no_key z f t ps none = none_marked z f t ps (λ i l.
    ap (λ b. nat_eq (note_at ps i).part.port z && (b && not (is_some (note_at ps i).ended))) (none (note_at ps i).part.channel (note_at ps i).key)
    ∙ none_of (nat_eq (note_at ps i).part.port z) (not (is_some (note_at ps i).ended)))

-- where one is
pub one_marked : (z : ℕ) (f : ℕ → ℕ → Bool) (t : ℕ) (ps : List Played) (j : ℕ) → j < length ps → is_at z f (note_at ps j) ≡ true
    → ((i : ℕ) → i < length ps → (i ≡ j → ⊥) → is_at z f (note_at ps i) ≡ false)
    → set ps j (record (note_at ps j) { ended = Some t }) ≡ map (marked z f t) ps
one_marked z f t [] j low here others = absurd (omega (arith, low))
one_marked z f t (p ∷ ps) zero low here others =
    ap (λ b. cond b (record p { ended = Some t }) p ∷ ps) (sym here)
    ∙ ap (λ xs. marked z f t p ∷ xs) (sym (none_marked z f t ps (λ i l. others (suc i) (omega (arith, l)) (λ e. absurd (omega (arith, e))))))
one_marked z f t (p ∷ ps) (suc j) low here others =
    ap (λ xs. p ∷ xs) (one_marked z f t ps j (omega (arith, low)) here (λ i l d. others (suc i) (omega (arith, l)) (λ e. d (omega (arith, e)))))
    ∙ ap (λ b. cond b (record p { ended = Some t }) p ∷ map (marked z f t) ps) (sym (others 0 (omega arith) (λ e. absurd (omega (arith, e)))))

-- ---- the masks

-- the keys of a mask but for those of another
abbrev pub keys_but : (ℕ → Bool) → (ℕ → Bool) → ℕ → ℕ → ℕ → Bool
keys_but told rest channel c k = nat_eq c channel && (nat_lt k 128 && (told k && not (rest k)))

pub no_keys_yet : (told : ℕ → Bool) (channel c k : ℕ) → keys_but told told channel c k ≡ false
no_keys_yet told channel c k = ap (λ b. nat_eq c channel && (nat_lt k 128 && b)) (and_not (told k))
    ∙ (ap (λ b. nat_eq c channel && b) (and_false (nat_lt k 128)) ∙ and_false (nat_eq c channel))
  where
    and_not : (b : Bool) → (b && not b) ≡ false
    and_not true = refl
    and_not false = refl

pub all_but_none : (told rest : ℕ → Bool) (channel : ℕ) → ((k : ℕ) → rest k ≡ false) → (c k : ℕ)
    → keys_but told rest channel c k ≡ keys_below told channel 128 c k
all_but_none told rest channel none c k = ap (λ b. nat_eq c channel && (nat_lt k 128 && (told k && not b))) (none k)
    ∙ ap (λ b. nat_eq c channel && (nat_lt k 128 && b)) (and_true (told k))
  where
    and_true : (b : Bool) → (b && true) ≡ b
    and_true true = refl
    and_true false = refl

-- one key less
pub fewer_keys : (rest less : ℕ → Bool) (key k : ℕ) → less k ≡ cond (nat_eq k key) false (rest k) → less k ≡ true → rest k ≡ true
fewer_keys rest less key k is h = pick (nat_eq k key) (sym is ∙ h)
  where
    pick : (b : Bool) → cond b false (rest k) ≡ true → rest k ≡ true
    pick true g = absurd cc
    pick false g = g

one_less : (told rest less : ℕ → Bool) (key k : ℕ) → key < 128 → told key ≡ true
    → (k < 128 → less k ≡ cond (nat_eq k key) false (rest k))
    → ((nat_lt k 128 && (told k && not (rest k))) || nat_eq k key) ≡ (nat_lt k 128 && (told k && not (less k)))
one_less told rest less key k low is cleared = elim (cases_lt k 128) [
  | inl l ↦ elim (cases_eq k key) [
    | inl e ↦
        ap (λ b. (nat_lt k 128 && (told k && not (rest k))) || b) (eq-eqb k key e)
        ∙ (or_true (nat_lt k 128 && (told k && not (rest k)))
        ∙ sym (ap (λ b. b && (told k && not (less k))) (lt-ltb k 128 l) ∙ (ap (λ b. b && not (less k)) (ap told e ∙ is)
        ∙ ap not (cleared l ∙ ap (λ b. cond b false (rest k)) (eq-eqb k key e)))))
    | inr d ↦
        ap (λ b. (nat_lt k 128 && (told k && not (rest k))) || b) (other k key d)
        ∙ (or_false (nat_lt k 128 && (told k && not (rest k)))
        ∙ sym (ap (λ b. nat_lt k 128 && (told k && not b)) (cleared l ∙ ap (λ b. cond b false (rest k)) (other k key d))))
  ]
  | inr g ↦
      ap (λ b. (b && (told k && not (rest k))) || nat_eq k key) (le-ltb k 128 g) ∙ (other k key (λ e. omega (arith, low, g, e))
      ∙ sym (ap (λ b. b && (told k && not (less k))) (le-ltb k 128 g)))
]
  where
    or_true : (b : Bool) → (b || true) ≡ true
    or_true true = refl
    or_true false = refl

pub next_key : (told rest less : ℕ → Bool) (channel key : ℕ) → key < 128 → told key ≡ true
    → ((k : ℕ) → k < 128 → less k ≡ cond (nat_eq k key) false (rest k)) → (c k : ℕ)
    → (keys_but told rest channel c k || is_key channel key c k) ≡ keys_but told less channel c k
next_key told rest less channel key low is cleared c k =
    both_parts (nat_eq c channel) (nat_lt k 128 && (told k && not (rest k))) (nat_eq k key)
    ∙ ap (λ x. nat_eq c channel && x) (one_less told rest less key k low is (cleared k))

pub no_channels_yet : (keys : List ℕ) (c k : ℕ) → channels_below keys 0 c k ≡ false
no_channels_yet keys c k = ap (λ b. b && (nat_lt k 128 && has (slice_index keys c) k)) (le-ltb c 0 (omega arith))

pub next_channel : (keys : List ℕ) (channel c k : ℕ)
    → (channels_below keys channel c k || keys_below (has (slice_index keys channel)) channel 128 c k) ≡ channels_below keys (channel + 1) c k
next_channel keys channel c k = or_next (λ d. nat_lt k 128 && has (slice_index keys d) k) c channel

-- one mark behind another
pub marks_then : (z : ℕ) (f g h : ℕ → ℕ → Bool) (t : ℕ) (ps qs rs : List Played) → qs ≡ map (marked z f t) ps → rs ≡ map (marked z g t) qs
    → ((c k : ℕ) → (f c k || g c k) ≡ h c k) → rs ≡ map (marked z h t) ps
marks_then z f g h t ps qs rs first then same =
    then ∙ (ap (map (marked z g t)) first ∙ (all_twice z f g t ps ∙ same_marks z (λ c k. f c k || g c k) h t same ps))
