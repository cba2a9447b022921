-- Notes that are listed, and keys on which notes sound.
use Rattle.std.proofs.Common.{◌≡◌, ◌<◌, ◌∙◌, ℕ, List, Bool, true, ◌&&◌, nat_eq, length, get_or, refl, sym, ap, subst, inl, inr}
use Rattle.std.specs.List.{list_any}
use Rattle.std.proofs.lemmas.Bool.{cases_Bool, both_ways, false_from_ne_true, and_parts, and_from, eqb-true, eq-eqb}
use Rattle.std.proofs.lemmas.List.Folds.{list_any_at}
use Rattle.key_pitch.specs.declared.aim.Aim.{Aim}
use Rattle.key_pitch.specs.declared.aim.Aim.TheVariants.{Unmapped, OutOfDevice, Mts, Bend}
use Rattle.retune_model.specs.Faults.{int_eq}
use Rattle.lifetimes.specs.declared.notes.Sounding.{Sounding}
use Rattle.lifetimes.specs.declared.notes.Struck.{Struck}
use Rattle.lifetimes.specs.Lists.{ListsSounding, entry_of, entry_at, any_key, is_same, no_note}
use Rattle.lifetimes.proofs.Kept.{same_int, int_eq_tells}
use Rattle.lifetimes.proofs.KeysAndNotes.{key_there, key_found}
use Rattle.lifetimes.proofs.InOrder.{each_from_all}
use Rattle.lifetimes.proofs.Listed.{some_is}

pub key_of_entry : (k : ℕ) (target : Aim) → (entry_of k target).key ≡ k
key_of_entry k Unmapped = refl
key_of_entry k OutOfDevice = refl
key_of_entry k (Mts v) = refl
key_of_entry k (Bend near q) = refl

pub same_tells : (a b : Sounding) → is_same a b ≡ true → a ≡ b
same_tells a b h =
    let s = and_parts (int_eq a.steps b.steps) (nat_eq a.target b.target && nat_eq a.key b.key) h in
    let t = and_parts (nat_eq a.target b.target) (nat_eq a.key b.key) s.1 in
    ap (λ z. record { steps = z; target = a.target; key = a.key }) (int_eq_tells a.steps b.steps s.0)
    ∙ (ap (λ z. record { steps = b.steps; target = z; key = a.key }) (eqb-true a.target b.target t.0)
    ∙ ap (λ z. record { steps = b.steps; target = b.target; key = z }) (eqb-true a.key b.key t.1))

pub itself : (a : Sounding) → is_same a a ≡ true
itself a = and_from (int_eq a.steps a.steps) (nat_eq a.target a.target && nat_eq a.key a.key) (same_int a.steps)
    (and_from (nat_eq a.target a.target) (nat_eq a.key a.key) (eq-eqb a.target a.target refl) (eq-eqb a.key a.key refl))

abbrev pub IsOwn : List Struck → Sounding → Type 0
IsOwn ss x = (x.key < 128) × (entry_at ss x.key ≡ x)

pub key_listed : (ss : List Struck) (xs : List Sounding) (at : ℕ → Bool) (x : Sounding) (i : ℕ) → ListsSounding ss xs at
    → i < length xs → get_or xs i no_note ≡ x
    → (x.key < 128) × (entry_at ss x.key ≡ x) × (at x.key ≡ true)
key_listed ss xs at x i l within here =
    let own = subst (IsOwn ss) here (each_from_all no_note (IsOwn ss) xs l.own i within) in
    let e = entry_at ss x.key in (
      own.0,
      own.1,
      sym (l.listed x.key own.0)
          ∙ list_any_at (λ y. is_same y e) xs i no_note within (ap (λ y. is_same y e) (here ∙ sym own.1) ∙ itself e),
    )

-- some entry passes a test exactly where the entry of some key does on which a note sounds
pub keys_listed : (p : Sounding → Bool) (ss : List Struck) (xs : List Sounding) (at : ℕ → Bool) → ListsSounding ss xs at
    → any_key (λ k. at k && p (entry_at ss k)) 128 ≡ list_any p xs
keys_listed p ss xs at l = elim (cases_Bool (list_any p xs)) [
  | inl t ↦ (let r = some_is p xs t in
      let x = get_or xs r.0 no_note in
      let o = key_listed ss xs at x r.0 l r.1 refl in
      key_there (λ k. at k && p (entry_at ss k)) 128 x.key o.0 (and_from (at x.key) (p (entry_at ss x.key)) o.2 (ap p o.1 ∙ r.2)) ∙ sym t)
  | inr f ↦ false_from_ne_true (any_key (λ k. at k && p (entry_at ss k)) 128) (λ h.
      let r = key_found (λ k. at k && p (entry_at ss k)) 128 h in
      let a = and_parts (at r.0) (p (entry_at ss r.0)) r.2 in
      let s = some_is (λ y. is_same y (entry_at ss r.0)) xs (l.listed r.0 r.1 ∙ a.0) in
      both_ways (list_any p xs) f (list_any_at p xs s.0 no_note s.1
      (ap p (same_tells (get_or xs s.0 no_note) (entry_at ss r.0) s.2) ∙ a.1))) ∙ sym f
]
