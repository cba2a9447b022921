-- Another key's note with the same target stands at the place of the target or right behind it.
use Rattle.std.proofs.Common.{◌≡◌, ◌<◌, ◌+◌, ◌∙◌, ℕ, List, Bool, true, false, ◌&&◌, ◌||◌, not, nat_eq, length, get_or, sym, ap, arith, inl, inr, Some}
use Rattle.std.specs.Prelude.{slice_get}
use Rattle.std.specs.List.{list_any}
use Rattle.std.proofs.lemmas.Int.{ints}
use Rattle.std.proofs.lemmas.Bool.{cases_lt, cases_Bool, both_ways, false_from_ne_true, and_parts, and_from, or_cases, or_left, or_right, not_from_false}
use Rattle.std.proofs.lemmas.Option.{slice_get_cases, slice_get-get_or}
use Rattle.std.proofs.lemmas.List.Folds.{list_any_at}
use Rattle.key_pitch.specs.declared.aim.Aim.{Aim}
use Rattle.lifetimes.specs.declared.notes.Sounding.{Sounding}
use Rattle.lifetimes.specs.declared.notes.Struck.{Struck}
use Rattle.lifetimes.specs.Lists.{ListsSounding, AreInTurn, IsPlaceIn, comes_before, entry_of, entry_at, struck_at, any_key, is_beside, is_unison, no_note}
use Rattle.lifetimes.proofs.KeysAndNotes.{any_key_same}
use Rattle.lifetimes.proofs.Listed.{some_is}
use Rattle.lifetimes.proofs.ListedKeys.{key_of_entry, keys_listed}

too_low : (w b : Sounding) → comes_before b (record w { key = 0 }) ≡ true → is_beside w b ≡ false
too_low w b h = grind (arith, ints)

between : (w b z : Sounding) → comes_before b (record w { key = 0 }) ≡ false → comes_before b z ≡ true → is_beside w z ≡ true → is_beside w b ≡ true
between w b z h g e = grind (arith, ints)

next_key : (w a b : Sounding) → is_beside w a ≡ true → is_beside w b ≡ true → comes_before a b ≡ true
    → nat_eq a.key w.key ≡ true → nat_eq b.key w.key ≡ false
next_key w a b h g t e = grind (arith, ints)

module _ (xs : List Sounding) (w : Sounding) (i : ℕ) (turns : AreInTurn xs) (place : IsPlaceIn xs (record w { key = 0 }) i) where
  abbrev here : Bool
  here = is_unison w (slice_get xs i)

  abbrev next : Bool
  next = is_unison w (slice_get xs (i + 1))

  abbrev is_near : Bool
  is_near = here || next

  near : (k : ℕ) → k < length xs → is_unison w (Some (get_or xs k no_note)) ≡ true → is_near ≡ true
  near k within h =
      let z = get_or xs k no_note in
      let u = and_parts (not (nat_eq z.key w.key)) (is_beside w z) h in
      elim (cases_lt k i) [
        | inl low ↦ absurd (both_ways (is_beside w z) (too_low w z (place.before k low)) u.1)
        | inr ge ↦ elim (cases_lt i k) [
          | inr le ↦ (let same : k ≡ i = omega (arith, ge, le) in
              or_left here next (ap (λ j. is_unison w (slice_get xs j)) (sym same) ∙ (ap (is_unison w) (slice_get-get_or xs k no_note within) ∙ h)))
          | inl gt ↦ elim (cases_lt (i + 1) k) [
            | inr le ↦ (let same : k ≡ i + 1 = omega (arith, gt, le) in
                or_right here next
                (ap (λ j. is_unison w (slice_get xs j)) (sym same) ∙ (ap (is_unison w) (slice_get-get_or xs k no_note within) ∙ h)))
            | inl far ↦ behind z (get_or xs i no_note) (get_or xs (i + 1) no_note)
                (slice_get-get_or xs i no_note (omega (arith, within, gt))) (slice_get-get_or xs (i + 1) no_note (omega (arith, within, far)))
                u.1 (turns i k gt within) (turns (i + 1) k far within) (turns i (i + 1) (omega arith) (omega (arith, within, far)))
                (place.behind i (omega arith) (omega (arith, within, gt))) (place.behind (i + 1) (omega arith) (omega (arith, within, far)))
          ]
        ]
      ]
    where
      behind : (z a b : Sounding) → slice_get xs i ≡ Some a → slice_get xs (i + 1) ≡ Some b → is_beside w z ≡ true
          → comes_before a z ≡ true → comes_before b z ≡ true → comes_before a b ≡ true
          → comes_before a (record w { key = 0 }) ≡ false → comes_before b (record w { key = 0 }) ≡ false → is_near ≡ true
      behind z a b at_a at_b u az bz ab la lb =
          let ba = between w a z la az u in
          let bb = between w b z lb bz u in
          elim (cases_Bool (nat_eq a.key w.key)) [
            | inl e ↦ or_right here next
                (ap (is_unison w) at_b ∙ and_from (not (nat_eq b.key w.key)) (is_beside w b)
                (not_from_false (nat_eq b.key w.key) (next_key w a b ba bb ab e)) bb)
            | inr e ↦ or_left here next
                (ap (is_unison w) at_a ∙ and_from (not (nat_eq a.key w.key)) (is_beside w a) (not_from_false (nat_eq a.key w.key) e) ba)
          ]

  there : (j : ℕ) → is_unison w (slice_get xs j) ≡ true → list_any (λ x. is_unison w (Some x)) xs ≡ true
  there j h = elim (slice_get_cases xs j).1 [
    | inl c ↦ list_any_at (λ x. is_unison w (Some x)) xs j no_note c.1 (ap (is_unison w) (sym (slice_get-get_or xs j no_note c.1)) ∙ h)
    | inr c ↦ absurd (both_ways (is_unison w (slice_get xs j)) (ap (is_unison w) c.1) h)
  ]

  unison_near : list_any (λ x. is_unison w (Some x)) xs ≡ is_near
  unison_near = elim (cases_Bool (list_any (λ x. is_unison w (Some x)) xs)) [
    | inl t ↦ (let r = some_is (λ x. is_unison w (Some x)) xs t in t ∙ sym (near r.0 r.1 r.2))
    | inr f ↦ f ∙ sym (false_from_ne_true is_near (λ h.
        both_ways (list_any (λ x. is_unison w (Some x)) xs) f
        (elim (or_cases here next h) [ inl a ↦ there i a | inr a ↦ there (i + 1) a ])))
  ]

-- by the keys on which notes sound
pub unison_told : (ss : List Struck) (xs : List Sounding) (at : ℕ → Bool) (key : ℕ) (target : Aim) (i : ℕ) → ListsSounding ss xs at → AreInTurn xs
    → IsPlaceIn xs (record (entry_of key target) { key = 0 }) i
    → any_key (λ k. at k && (not (nat_eq k key) && is_beside (entry_of key target) (entry_at ss k))) 128
    ≡ (is_unison (entry_of key target) (slice_get xs i) || is_unison (entry_of key target) (slice_get xs (i + 1)))
unison_told ss xs at key target i l turns place =
    let w = entry_of key target in
    any_key_same (λ k. at k && (not (nat_eq k key) && is_beside w (entry_at ss k))) (λ k. at k && is_unison w (Some (entry_at ss k))) 128
    (λ k low. ap (λ n. at k && (not (nat_eq n key) && is_beside w (entry_at ss k))) (sym (key_of_entry k (struck_at ss k).target))
    ∙ ap (λ n. at k && (not (nat_eq (entry_at ss k).key n) && is_beside w (entry_at ss k))) (sym (key_of_entry key target)))
    ∙ (keys_listed (λ x. is_unison w (Some x)) ss xs at l ∙ unison_near xs w i turns place)
