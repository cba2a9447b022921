-- Keys whose pitch is a sum of few ratios, and of many.
use Rattle.std.proofs.Common.{◌≡◌, ℕ, ◌+◌, ◌*◌, ◌^◌, ◌<◌, ◌≤◌, pos, arith, refl, sym, subst, List, Option, Some, None, Bool, true, false}
use Rattle.std.specs.Prelude.{if◌then◌else◌}
use Rattle.std.proofs.lemmas.Int.{ints}
use Rattle.mt_base.specs.Pitch.{Pitch, exactly}
use Rattle.scl_text.specs.declared.entry.Entry.{Entry}
use Rattle.kbm_text.specs.Map.{KeyMap}
use Rattle.retune_model.specs.Scale.{above_middle, terms_above_middle, from_reference, is_mapped_range, terms_if, scale_pitch, term_count, ratios_of_key}
use Rattle.retune_model.specs.Table.{Bound}
use Rattle.key_pitch.specs.declared.sum.Sum.{Sum}
use Rattle.key_pitch.specs.Views.{bounds_of}
use Rattle.key_pitch.specs.Sums.{SumsIf, IsSmall}
use Rattle.key_pitch.specs.Tables.{IsNarrow, IsKeyBound}
use Rattle.key_pitch.proofs.Placed.{some_pitch}

pub none_narrow : IsNarrow None
none_narrow = record { low = omega (arith, ints); order = omega (arith, ints); high = omega (arith, ints); narrow = omega (arith, ints) }

no_terms : (m : KeyMap) (b : Bool) (u : Option Pitch) (r x : Pitch) (n : ℕ) → (if b then from_reference m u (Some r) else Some x) ≡ None → (if b then terms_if u n else 0) ≡ 0
no_terms m false u r x n h = refl
no_terms m true None r x n h = refl
no_terms m true (Some p) r x n h = absurd (let no : ⊥ = cc in no)

none_terms : (scale : List Entry) (m : KeyMap) (k : ℕ) (r : Pitch) → above_middle scale m m.reference ≡ Some r → scale_pitch scale m k ≡ None → term_count scale m k ≡ 0
unfolding scale_pitch term_count
none_terms scale m k r ref none =
    no_terms m (is_mapped_range m k) (above_middle scale m k) r (exactly (pos (3200000000000 * k))) (terms_above_middle scale m k + terms_above_middle scale m m.reference + 1)
    (subst (λ o. (if is_mapped_range m k then from_reference m (above_middle scale m k) o else Some (exactly (pos (3200000000000 * k)))) ≡ None) ref none)

pub key_none : (scale : List Entry) (m : KeyMap) (k : ℕ) (r : Pitch) → above_middle scale m m.reference ≡ Some r → scale_pitch scale m k ≡ None → IsKeyBound scale m k None
key_none scale m k r ref none = record {
  bound = subst (λ o. Bound (term_count scale m k) (ratios_of_key scale m k) o None) (sym none) tt;
  few = omega (arith, none_terms scale m k r ref none);
  narrow = none_narrow;
}

pub key_many : (scale : List Entry) (m : KeyMap) (k : ℕ) (s : Sum) → SumsIf (term_count scale m k) (ratios_of_key scale m k) (scale_pitch scale m k) (Some s) → 1700 < s.terms → 1700 < term_count scale m k
key_many scale m k s h many =
    let p = some_pitch _ _ _ s h in
    let counted = p.2.counted in
    omega (arith, counted)

pub key_bound : (scale : List Entry) (m : KeyMap) (k : ℕ) (s : Sum) → SumsIf (term_count scale m k) (ratios_of_key scale m k) (scale_pitch scale m k) (Some s) → s.terms ≤ 1700 → IsSmall (2 ^ 90) (2 ^ 24) s → IsKeyBound scale m k (Some s.bracket)
key_bound scale m k s h few small =
    let p = some_pitch _ _ _ s h in
    let counted = p.2.counted in
    let narrow = p.2.bounds.narrow in
    let at_most : term_count scale m k ≤ 1700 = omega (arith, counted) in
    record {
      bound = subst (λ o. Bound (term_count scale m k) (ratios_of_key scale m k) o (Some (bounds_of s.bracket))) (sym p.1) p.2.bounds;
      few = at_most;
      narrow = record {
        low = small.low;
        order = small.order;
        high = small.high;
        narrow = omega (arith, ints, narrow, at_most);
      };
    }
