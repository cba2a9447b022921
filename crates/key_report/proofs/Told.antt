-- What is said of the keys in use holds of the scale.
use Rattle.std.proofs.Common.{◌≡◌, ◌≤◌, ℕ, List, Bool, true, false, Option, Some, None, cond, refl, ap, sym, ◌∙◌, arith}
use Rattle.std.specs.Prelude.{option_map}
use Rattle.std.proofs.lemmas.Int.{ints}
use Rattle.mt_base.specs.Pitch.{Pitch}
use Rattle.retune_model.specs.Table.{Scaling, Bounds, Bound, pitch_at, terms_at, ratios_at_key}
use Rattle.key_report.specs.declared.keys.KeyError.{KeyError}
use Rattle.key_report.specs.declared.target.Target.{Target}
use Rattle.key_report.specs.ErrorLaws.{ErrorsHold, ErrorsAreNear}
use Rattle.key_report.specs.Keys.{error_of, errors_below, error_if, used_error}
use Rattle.key_report.specs.Targets.{IsDevice, half_step_of, target_if, target_of, told_grains}
use Rattle.key_report.specs.KeyLaws.{HasError, IsTold, KeyErrorsHold, NoteErrorHolds, UsedKeysAreTold, NoKeyIsLeftOut, SameKeys}
use Rattle.key_report.proofs.Near.{target_is_near}
use Rattle.key_report.proofs.Below.{all_from, found_from, same_from}

-- the error of a key that has a target
pub record IsErrorOf (range : Option ℕ) (o : Option Bounds) (key : ℕ) (e : KeyError) : Type 0 where
  pub bounds : Bounds
  pub value : Target
  pub told : o ≡ Some bounds
  pub target : target_of range bounds ≡ Some value
  pub is : e ≡ error_of range key bounds value

of_target : (range : Option ℕ) (key : ℕ) (b : Bounds) (t : Option Target) (e : KeyError) → target_of range b ≡ t
    → option_map (error_of range key b) t ≡ Some e → IsErrorOf range (Some b) key e
of_target range key b None e target some = absurd cc
of_target range key b (Some v) e target some =
    record { bounds = b; value = v; told = refl; target = target; is = sym (search some) }

pub of_bounds : (range : Option ℕ) (key : ℕ) (o : Option Bounds) (e : KeyError) → error_if range key o ≡ Some e → IsErrorOf range o key e
of_bounds range key None e some = absurd cc
of_bounds range key (Some b) e some = of_target range key b (target_of range b) e refl some

-- of a key that is used
of_used : (range : Option ℕ) (table : ℕ → Option Bounds) (used : ℕ → Bool) (key : ℕ) (e : KeyError) → used_error range table used key ≡ Some e
    → (used key ≡ true) × (error_if range key (table key) ≡ Some e)
of_used range table used key e some = pick (used key) refl some
  where
    pick : (u : Bool) → used key ≡ u → cond u (error_if range key (table key)) None ≡ Some e
        → (used key ≡ true) × (error_if range key (table key) ≡ Some e)
    pick true in_use h = (in_use, h)
    pick false in_use h = absurd cc

-- by the bounds of a key, its target and its pitch
of_pitch : ErrorsHold → ErrorsAreNear → (s : Scaling) (range : Option ℕ) (onset key : ℕ) (b : Bounds) (v : Target) (o : Option Pitch) (terms : ℕ)
    (ratios : List (ℕ × ℕ)) → IsDevice range → target_of range b ≡ Some v
    → pitch_at s key onset ≡ o → Bound terms ratios o (Some b) → terms ≤ 1700 → HasError s range onset (error_of range key b v)
of_pitch hold near s range onset key b v None terms ratios device target of_key a few = absurd a
of_pitch hold near s range onset key b v (Some p) terms ratios device target of_key a few =
    let n = target_is_near range b v device target in
    let low = n.low in
    let high = n.high in
    let narrow = a.narrow in
    let holds = hold p b.lo b.hi (told_grains range v) a.least a.most in
    let close = near b.lo b.hi (told_grains range v) (half_step_of range) (omega (arith, ints, narrow, few)) high low in
    record { pitch = p; of_key = of_key; least = holds.0; most = holds.1; within_low = close.0; within_high = close.1 }

pub error_of_note : ErrorsHold → ErrorsAreNear → NoteErrorHolds
error_of_note hold near s table range onset key e is_table few device low some =
    let of = of_bounds range key (table key onset) e some in
    let bound = rw of.told at (is_table.bounds key onset (omega (arith, low))) in
    rw of.is (of_pitch hold near s range onset key of.bounds of.value (pitch_at s key onset) (terms_at s key onset) (ratios_at_key s key onset)
    device of.target refl bound (few key onset (omega (arith, low))))

pub errors_of_keys : ErrorsHold → ErrorsAreNear → KeyErrorsHold
unfolding errors_below
errors_of_keys hold near s table range onset used is_table few device =
    all_from (HasError s range onset) (used_error range (λ key. table key onset) used) 0 128 (λ key e low some.
    error_of_note hold near s table range onset key e is_table few device (omega (arith, low))
    (of_used range (λ key. table key onset) used key e some).1)

pub used_are_told : UsedKeysAreTold
unfolding errors_below
used_are_told range table used = all_from (IsTold range table used) (used_error range table used) 0 128 (λ key e low some.
    let two = of_used range table used key e some in
    let of = of_bounds range key (table key) e two.1 in
    rw of.is (low, two.0, ap (target_if range) of.told ∙ of.target))

told_error : (range : Option ℕ) (table : ℕ → Option Bounds) (used : ℕ → Bool) (key : ℕ) (t : Target) (o : Option Bounds) → used key ≡ true
    → table key ≡ o → target_if range o ≡ Some t
    → (b : Bounds) × (used_error range table used key ≡ Some (error_of range key b t))
told_error range table used key t None in_use told target = absurd cc
told_error range table used key t (Some b) in_use told target =
    (b, ap (λ u. cond u (error_if range key (table key)) None) in_use ∙ ap (error_if range key) told ∙ ap (option_map (error_of range key b)) target)

pub none_is_left_out : NoKeyIsLeftOut
unfolding errors_below
none_is_left_out range table used key t low in_use target =
    let told = told_error range table used key t (table key) in_use refl target in
    found_from (used_error range table used) 0 128 key (error_of range key told.0 t) (omega arith) (omega (arith, low)) told.1

pub same_keys : SameKeys
unfolding errors_below
same_keys range table f g same = same_from range table f g 0 128 same
