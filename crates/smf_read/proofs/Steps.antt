-- Steps of reading that did not fail.
use Rattle.std.proofs.Common.{◌≡◌, ℕ, zero, suc, ◌<◌, Result, Ok, Err, eqb, false, refl, arith}
use Rattle.midi_model.specs.declared.fault.Stop.{Stop}
use Rattle.midi_model.specs.Reading.{◌>>=◌}

-- the value of a step that did not fail
pub bind_ok : {A B : Type 0} (r : Result A Stop) (f : A → Result B Stop) (y : B) → (r >>= f) ≡ Ok y → (x : A) × (r ≡ Ok x) × (f x ≡ Ok y)
bind_ok (Ok x) f y e = (x, refl, e)
bind_ok (Err d) f y e = absurd cc

abbrev done : {A : Type 0} → A → Result A Stop
done x = Ok x

pub ok_is : {A : Type 0} (x y : A) → done x ≡ done y → x ≡ y
ok_is x y e = cc

pub nonzero : (n : ℕ) → eqb n 0 ≡ false → 0 < n
nonzero zero e = absurd cc
nonzero (suc n) e = omega arith
