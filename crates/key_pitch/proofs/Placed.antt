-- The pitch of a key as the program adds it up.
use Rattle.std.proofs.Common.{◌≡◌, ℕ, ◌+◌, ◌*◌, ◌<◌, ◌≤◌, ℤ, pos, arith, refl, sym, ◌∙◌, ap, subst, List, [], ◌∷◌, ◌++◌, length, get_or, Option, Some, None, Bool, true, false}
use Rattle.std.specs.Prelude.{nat_eq, nat_le, if◌then◌else◌, ◌&&◌}
use Rattle.std.specs.List.{AllByRecursion}
use Rattle.mt_base.specs.Pitch.{Pitch, added, subtracted, exactly}
use Rattle.scl_text.specs.declared.entry.Entry.{Entry}
use Rattle.kbm_text.specs.Map.{KeyMap}
use Rattle.retune_model.specs.Scale.{IsOctaves, repeated, size_of, floor_div, floor_rem, from_middle, pitch_of_degree, terms_of_degree, ratios_of_degree, pitch_of_entry, terms_of_entry, ratios_of_entry, above_middle, terms_above_middle, ratios_above_middle, reference_pitch, is_mapped_range, scale_pitch, term_count, ratios_of_key}
use Rattle.key_pitch.specs.declared.sum.Sum.{Sum}
use Rattle.key_pitch.specs.Views.{bounds_of}
use Rattle.key_pitch.specs.Sums.{IsEntrySum, Sums, SumsIf}
use Rattle.key_pitch.proofs.Bounds.{all_first, all_second, retold}

pub some_pitch : (t : ℕ) (r : List (ℕ × ℕ)) (o : Option Pitch) (s : Sum) → SumsIf t r o (Some s) → (p : Pitch) × (o ≡ Some p) × Sums p t r s
some_pitch t r None s h = absurd h
some_pitch t r (Some p) s h = (p, refl, h)

pub no_pitch : (t : ℕ) (r : List (ℕ × ℕ)) (o : Option Pitch) → SumsIf t r o None → o ≡ None
no_pitch t r None h = refl
no_pitch t r (Some p) h = absurd h

-- an entry of the map that is a degree
pub entry_sums : (scale : List Entry) (m : KeyMap) (j turns d g : ℤ) (place : ℕ) (e : Option ℕ) (s : Sum) → Sums (added (repeated turns (pitch_of_degree scale d)) (pitch_of_degree scale g)) (size_of turns * terms_of_degree scale d + terms_of_degree scale g) ((if nat_eq (size_of turns) 0 then [] else ratios_of_degree scale d) ++ ratios_of_degree scale g) s → turns ≡ j → d ≡ pos m.octave → g ≡ pos place → e ≡ Some place → SumsIf (terms_of_entry scale m j e) (ratios_of_entry scale m j e) (pitch_of_entry scale m j e) (Some s)
entry_sums scale m j turns d g place e s h same octave degree is =
    let at_j = subst (λ z. Sums (added (repeated z (pitch_of_degree scale d)) (pitch_of_degree scale g)) (size_of z * terms_of_degree scale d + terms_of_degree scale g) ((if nat_eq (size_of z) 0 then [] else ratios_of_degree scale d) ++ ratios_of_degree scale g) s) same h in
    let at_octave = subst (λ z. Sums (added (repeated j (pitch_of_degree scale z)) (pitch_of_degree scale g)) (size_of j * terms_of_degree scale z + terms_of_degree scale g) ((if nat_eq (size_of j) 0 then [] else ratios_of_degree scale z) ++ ratios_of_degree scale g) s) octave at_j in
    let at_degree = subst (λ z. Sums (added (repeated j (pitch_of_degree scale (pos m.octave))) (pitch_of_degree scale z)) (size_of j * terms_of_degree scale (pos m.octave) + terms_of_degree scale z) ((if nat_eq (size_of j) 0 then [] else ratios_of_degree scale (pos m.octave)) ++ ratios_of_degree scale z) s) degree at_octave in
    subst (λ o. SumsIf (terms_of_entry scale m j o) (ratios_of_entry scale m j o) (pitch_of_entry scale m j o) (Some s)) (sym is) at_degree

-- a map without entries: the scale itself
pub unmapped_sums : (scale : List Entry) (m : KeyMap) (k : ℕ) (d : ℤ) (s : Sum) → length m.entries ≡ 0 → d ≡ from_middle m k → Sums (pitch_of_degree scale d) (terms_of_degree scale d) (ratios_of_degree scale d) s → SumsIf (terms_above_middle scale m k) (ratios_above_middle scale m k) (above_middle scale m k) (Some s)
unmapped_sums scale m k d s none is h =
    let e : nat_eq (length m.entries) 0 ≡ true = ap (λ n. nat_eq n 0) none in
    rw e (subst (λ z. Sums (pitch_of_degree scale z) (terms_of_degree scale z) (ratios_of_degree scale z) s) is h)

-- an entry of the map
nat_eq_some : (n : ℕ) → 1 ≤ n → nat_eq n 0 ≡ false
nat_eq_some n h = grind arith

pub mapped_sums : (scale : List Entry) (m : KeyMap) (k n : ℕ) (d j : ℤ) (i : ℕ) (e : Option ℕ) (s : Option Sum) → IsEntrySum scale m j e s → j ≡ floor_div d n → i ≡ floor_rem d n → n ≡ length m.entries → 1 ≤ n → d ≡ from_middle m k → get_or m.entries i None ≡ e → SumsIf (terms_above_middle scale m k) (ratios_above_middle scale m k) (above_middle scale m k) s
mapped_sums scale m k n d j i e s h quotient rest size some is there =
    let b : nat_eq (length m.entries) 0 ≡ false = ap (λ x. nat_eq x 0) (sym size) ∙ nat_eq_some n some in
    let j_is : j ≡ floor_div (from_middle m k) (length m.entries) = quotient ∙ ap (λ z. floor_div z n) is ∙ ap (floor_div (from_middle m k)) size in
    let i_is : i ≡ floor_rem (from_middle m k) (length m.entries) = rest ∙ ap (λ z. floor_rem z n) is ∙ ap (floor_rem (from_middle m k)) size in
    let e_is : e ≡ get_or m.entries (floor_rem (from_middle m k) (length m.entries)) None = sym there ∙ ap (λ x. get_or m.entries x None) i_is in
    let at_j = subst (λ z. IsEntrySum scale m z e s) j_is h in
    let at_e = subst (λ x. IsEntrySum scale m (floor_div (from_middle m k) (length m.entries)) x s) e_is at_j in
    rw b at_e

both : (P : ℕ × ℕ → Type 0) (xs ys : List (ℕ × ℕ)) → AllByRecursion P xs → AllByRecursion P ys → AllByRecursion P (xs ++ ys)
both P [] ys h i = i
both P (x ∷ xs) ys h i = (h.0, both P xs ys h.1 i)

regrouped : (P : ℕ × ℕ → Type 0) (f : ℕ × ℕ) (u r : List (ℕ × ℕ)) → AllByRecursion P (u ++ (r ++ f ∷ [])) → AllByRecursion P ((f ∷ [] ++ u) ++ r)
regrouped P f u r all =
    let rest = all_second P u (r ++ f ∷ []) all in
    let first = all_second P r (f ∷ []) rest in
    (first.0, both P u r (all_first P u (r ++ f ∷ []) all) (all_first P r (f ∷ []) rest))

-- a key from the first to the last
pub key_sums : (scale : List Entry) (m : KeyMap) (k : ℕ) (u r : Pitch) (s : Sum) → is_mapped_range m k ≡ true → above_middle scale m k ≡ Some u → above_middle scale m m.reference ≡ Some r → Sums (subtracted (added (reference_pitch m) u) r) ((1 + terms_above_middle scale m k) + terms_above_middle scale m m.reference) (((m.nanohertz, 440000000000) ∷ [] ++ ratios_above_middle scale m k) ++ ratios_above_middle scale m m.reference) s → SumsIf (term_count scale m k) (ratios_of_key scale m k) (scale_pitch scale m k) (Some s)
unfolding scale_pitch term_count ratios_of_key
key_sums scale m k u r s in_range up ref h =
    let t : (1 + terms_above_middle scale m k) + terms_above_middle scale m m.reference ≡ terms_above_middle scale m k + terms_above_middle scale m m.reference + 1 = omega arith in
    let result : Sums (subtracted (added (reference_pitch m) u) r) (terms_above_middle scale m k + terms_above_middle scale m m.reference + 1) (ratios_above_middle scale m k ++ (ratios_above_middle scale m m.reference ++ (m.nanohertz, 440000000000) ∷ [])) s =
    record {
      counted = h.counted ∙ t;
      bounds = retold _ _ _ _ _ (bounds_of s.bracket) h.bounds t (regrouped IsOctaves (m.nanohertz, 440000000000) (ratios_above_middle scale m k) (ratios_above_middle scale m m.reference));
    } in
    rw (in_range, up, ref) result

-- a key that the map leaves out
pub key_left_out : (scale : List Entry) (m : KeyMap) (k : ℕ) → is_mapped_range m k ≡ true → above_middle scale m k ≡ None → SumsIf (term_count scale m k) (ratios_of_key scale m k) (scale_pitch scale m k) None
unfolding scale_pitch term_count ratios_of_key
key_left_out scale m k in_range up = rw (in_range, up) tt

-- a key outside the first and the last
pub key_outside : (scale : List Entry) (m : KeyMap) (k : ℕ) (s : Sum) → is_mapped_range m k ≡ false → Sums (exactly (pos (3200000000000 * k))) 0 [] s → SumsIf (term_count scale m k) (ratios_of_key scale m k) (scale_pitch scale m k) (Some s)
unfolding scale_pitch term_count ratios_of_key
key_outside scale m k s outside h = rw outside h

last_false : (b : Bool) → (b && false) ≡ false
last_false true = refl
last_false false = refl

pub inside : (m : KeyMap) (k : ℕ) → m.first ≤ k → k ≤ m.last → is_mapped_range m k ≡ true
inside m k low high =
    let a : nat_le m.first k ≡ true = grind arith in
    let b : nat_le k m.last ≡ true = grind arith in
    rw (a, b) refl

pub outside_low : (m : KeyMap) (k : ℕ) → k < m.first → is_mapped_range m k ≡ false
outside_low m k low =
    let a : nat_le m.first k ≡ false = grind arith in
    rw a refl

pub outside_high : (m : KeyMap) (k : ℕ) → m.last < k → is_mapped_range m k ≡ false
outside_high m k high =
    let b : nat_le k m.last ≡ false = grind arith in
    rw b (last_false (nat_le m.first k))
