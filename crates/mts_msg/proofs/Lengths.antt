use Rattle.std.proofs.Common.{◌≡◌, ℕ, ◌*◌, List, [], ◌∷◌, length, Option, Some, None, arith, refl, length-append}
use Rattle.std.specs.List.{flat_map}
use Rattle.midi_model.specs.TuningBytes.{value_bytes}

pub value_length : (v : Option ℕ) → length (value_bytes v) ≡ 3
value_length None = refl
value_length (Some v) = refl

pub values_length : (vs : List (Option ℕ)) → length (flat_map value_bytes vs) ≡ 3 * length vs
values_length [] = refl
values_length (v ∷ vs) = omega (arith, value_length v, values_length vs, length-append (value_bytes v) (flat_map value_bytes vs))
