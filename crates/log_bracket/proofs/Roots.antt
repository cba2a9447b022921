-- From the logarithm of a power to that of its root.
use Rattle.std.proofs.Common.{◌≡◌, ℕ, ◌*◌, ◌^◌, ◌<◌, ◌≤◌, arith, refl, sym, ◌∙◌, ap}
use Rattle.std.proofs.Math.Nat.{pow-le-pow_left, pow-le-pow_right, mul-le-mul_right, le_trans}
use Rattle.std.proofs.lemmas.Nat.{mul-pow}
use Rattle.mt_base.specs.Laws.{PowerOfPower, PowersTell}

-- the powers of a product of powers, in either order
turned : PowerOfPower → (a j k : ℕ) → (a ^ k) ^ j ≡ (a ^ j) ^ k
turned of_power a j k = sym (of_power a k j) ∙ ap (λ e. a ^ e) (let e : k * j ≡ j * k = omega arith in e) ∙ of_power a j k

spread : PowerOfPower → (n b j k : ℕ) → (2 ^ n * b ^ k) ^ j ≡ 2 ^ (n * j) * (b ^ j) ^ k
spread of_power n b j k = rw (mul-pow (2 ^ n) (b ^ k) j, ← of_power 2 n j, turned of_power b j k) refl

gather : PowerOfPower → (m b j k : ℕ) → (2 ^ m * b ^ j) ^ k ≡ 2 ^ (m * k) * (b ^ j) ^ k
gather of_power m b j k = rw (mul-pow (2 ^ m) (b ^ j) k, ← of_power 2 m k) refl

pub root_least : PowerOfPower → PowersTell → (k j m n a b : ℕ) → 0 < j → n * j ≤ k * m → 2 ^ m * b ^ j ≤ a ^ j → 2 ^ n * b ^ k ≤ a ^ k
root_least of_power tell k j m n a b above l h =
    let less : n * j ≤ m * k = omega arith in
    let powers : 2 ^ (n * j) * (b ^ j) ^ k ≤ 2 ^ (m * k) * (b ^ j) ^ k = mul-le-mul_right ((b ^ j) ^ k) (pow-le-pow_right {n = 2} (omega arith) less) in
    let most : (2 ^ m * b ^ j) ^ k ≤ (a ^ j) ^ k = pow-le-pow_left h k in
    tell (2 ^ n * b ^ k) (a ^ k) j above
    (rw (spread of_power n b j k, turned of_power a j k) (le_trans powers (rw (gather of_power m b j k) at most)))

pub root_most : PowerOfPower → PowersTell → (k j m n a b : ℕ) → 0 < j → k * m ≤ n * j → a ^ j ≤ 2 ^ m * b ^ j → a ^ k ≤ 2 ^ n * b ^ k
root_most of_power tell k j m n a b above l h =
    let less : m * k ≤ n * j = omega arith in
    let powers : 2 ^ (m * k) * (b ^ j) ^ k ≤ 2 ^ (n * j) * (b ^ j) ^ k = mul-le-mul_right ((b ^ j) ^ k) (pow-le-pow_right {n = 2} (omega arith) less) in
    let least : (a ^ j) ^ k ≤ (2 ^ m * b ^ j) ^ k = pow-le-pow_left h k in
    tell (a ^ k) (2 ^ n * b ^ k) j above
    (rw (spread of_power n b j k, turned of_power a j k) (le_trans (rw (gather of_power m b j k) at least) powers))
