-- The keys from 0 to 127, one after another.
use Rattle.std.proofs.Common.{◌≡◌, ◌<◌, ℕ, suc, ◌+◌, ◌-◌, Bool, cond, Some, arith, ap}
use Rattle.std.specs.List.{find, range_with_len}

pub find_next : (p : ℕ → Bool) (key : ℕ) → key < 128 → find p (range_with_len key (128 - key)) ≡ cond (p key) (Some key) (find p (range_with_len (key + 1) (128 - (key + 1))))
find_next p key inside =
    let more : 128 - key ≡ suc (128 - (key + 1)) = omega arith in
    ap (λ n. find p (range_with_len key n)) more
