-- The errors of the used keys below one, key by key.
use Rattle.std.proofs.Common.{◌≡◌, ◌<◌, ◌≤◌, ◌+◌, ℕ, zero, suc, List, [], ◌∷◌, ◌++◌, Bool, Option, Some, None, refl, ap, sym, ◌∙◌, arith, append_assoc, inl, inr}
use Rattle.std.specs.Prelude.{All, Contains, filter_map, fold, map}
use Rattle.std.specs.List.{range_with_len, cons_option}
use Rattle.std.proofs.lemmas.Bool.{cases_eq}
use Rattle.std.proofs.lemmas.Grind.{flat_map-append}
use Rattle.std.proofs.lemmas.List.Elements.{filter_map-append, All-nil, All-cons, Contains-append_left, Contains-append_right, Contains-push}
use Rattle.std.proofs.lemmas.List.Sums.{fold-append}
use Rattle.key_report.specs.declared.keys.KeyError.{KeyError}
use Rattle.key_report.specs.declared.range.ErrorRange.{ErrorRange}
use Rattle.key_report.specs.Keys.{errors_below, used_error, whole_error, with_error}
use Rattle.key_report.specs.Texts.{key_lines, key_line}
use Rattle.retune_model.specs.Table.{Bounds}

range_more : (a n b : ℕ) → a + n ≡ b → range_with_len a (n + 1) ≡ range_with_len a n ++ b ∷ []
range_more a zero b e = ap (λ x. x ∷ []) (omega (arith, e))
range_more a (suc n) b e =
    let more : suc n + 1 ≡ suc (n + 1) = omega arith in
    ap (range_with_len a) more ∙ ap (λ xs. a ∷ xs) (range_more (a + 1) n b (omega (arith, e)))

one_more : (range : Option ℕ) (table : ℕ → Option Bounds) (used : ℕ → Bool) (k : ℕ)
    → errors_below range table used (k + 1) ≡ errors_below range table used k ++ cons_option (used_error range table used k) []
unfolding errors_below
one_more range table used k =
    ap (filter_map (used_error range table used)) (range_more 0 k k (omega arith))
    ∙ filter_map-append (used_error range table used) (range_with_len 0 k) (k ∷ [])

pub none_below : (range : Option ℕ) (table : ℕ → Option Bounds) (used : ℕ → Bool) → errors_below range table used 0 ≡ []
unfolding errors_below
none_below range table used = refl

-- what is put for the next key
pub lines_more : (range : Option ℕ) (table : ℕ → Option Bounds) (used : ℕ → Bool) (k : ℕ) (e : Option KeyError) (before out new : List ℕ) → e ≡ used_error range table used k
    → out ≡ before ++ key_lines (errors_below range table used k) → new ≡ out ++ key_lines (cons_option e [])
    → new ≡ before ++ key_lines (errors_below range table used (k + 1))
lines_more range table used k e before out new is was put =
    put ∙ ap (λ o. o ++ key_lines (cons_option e [])) was
    ∙ append_assoc before (key_lines (errors_below range table used k)) (key_lines (cons_option e []))
    ∙ ap (λ x. before ++ x) (
    ap (λ x. key_lines (errors_below range table used k) ++ key_lines (cons_option x [])) is
    ∙ sym (flat_map-append key_line (errors_below range table used k) (cons_option (used_error range table used k) []))
    ∙ ap key_lines (sym (one_more range table used k)))

pub whole_more : (range : Option ℕ) (table : ℕ → Option Bounds) (used : ℕ → Bool) (k : ℕ) (e : Option KeyError) (whole new : Option ErrorRange)
    → e ≡ used_error range table used k
    → whole ≡ whole_error (errors_below range table used k) → new ≡ fold with_error whole (cons_option e [])
    → new ≡ whole_error (errors_below range table used (k + 1))
whole_more range table used k e whole new is was joined =
    joined ∙ ap (λ w. fold with_error w (cons_option e [])) was
    ∙ ap (λ x. fold with_error (whole_error (errors_below range table used k)) (cons_option x [])) is
    ∙ sym (fold-append with_error None (errors_below range table used k) (cons_option (used_error range table used k) []))
    ∙ ap whole_error (sym (one_more range table used k))

-- by the same keys in use
pub same_from : (range : Option ℕ) (table : ℕ → Option Bounds) (f g : ℕ → Bool) (a n : ℕ) → ((k : ℕ) → k < a + n → f k ≡ g k)
    → filter_map (used_error range table f) (range_with_len a n) ≡ filter_map (used_error range table g) (range_with_len a n)
same_from range table f g a zero same = refl
same_from range table f g a (suc n) same =
    let rest = same_from range table f g (a + 1) n (λ k low. same k (omega (arith, low))) in
    let here : f a ≡ g a = same a (omega arith) in
    ap (λ (b : Bool). cons_option (used_error range table (λ k. b) a) (filter_map (used_error range table f) (range_with_len (a + 1) n))) here
    ∙ ap (cons_option (used_error range table g a)) rest

-- what holds of the error of each used key
all_of_option : (P : KeyError → Type 0) (o : Option KeyError) (es : List KeyError) → ((e : KeyError) → o ≡ Some e → P e) → All P es
    → All P (cons_option o es)
all_of_option P None es each rest = rest
all_of_option P (Some e) es each rest = All-cons P e es (each e refl) rest

pub all_from : (P : KeyError → Type 0) (h : ℕ → Option KeyError) (a n : ℕ) → ((k : ℕ) (e : KeyError) → k < a + n → h k ≡ Some e → P e)
    → All P (filter_map h (range_with_len a n))
all_from P h a zero each = All-nil P
all_from P h a (suc n) each =
    all_of_option P (h a) (filter_map h (range_with_len (a + 1) n)) (λ e is. each a e (omega arith) is)
    (all_from P h (a + 1) n (λ k e low is. each k e (omega (arith, low)) is))

here_in : (o : Option KeyError) (es : List KeyError) (e : KeyError) → o ≡ Some e → Contains (map (λ x. x.key) (cons_option o es)) e.key
here_in None es e is = absurd cc
here_in (Some x) es e is =
    let same : x ≡ e = cc in
    rw (← same) (Contains-append_left (x.key ∷ []) (map (λ x. x.key) es) x.key (Contains-push [] x.key))

there_in : (o : Option KeyError) (es : List KeyError) (key : ℕ) → Contains (map (λ x. x.key) es) key
    → Contains (map (λ x. x.key) (cons_option o es)) key
there_in None es key rest = rest
there_in (Some x) es key rest = Contains-append_right (x.key ∷ []) (map (λ x. x.key) es) key rest

pub found_from : (h : ℕ → Option KeyError) (a n k : ℕ) (e : KeyError) → a ≤ k → k < a + n → h k ≡ Some e
    → Contains (map (λ x. x.key) (filter_map h (range_with_len a n))) e.key
found_from h a zero k e low high is = absurd (omega (arith, low, high))
found_from h a (suc n) k e low high is = elim (cases_eq k a) [
  | inl same ↦ here_in (h a) (filter_map h (range_with_len (a + 1) n)) e (ap h (sym same) ∙ is)
  | inr other ↦ there_in (h a) (filter_map h (range_with_len (a + 1) n)) e.key
      (found_from h (a + 1) n k e (omega (arith, low, other)) (omega (arith, high)) is)
]
