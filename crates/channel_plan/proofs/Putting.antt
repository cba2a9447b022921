-- Rows of channels, from a place on.
use Rattle.std.proofs.Common.{◌≡◌, ◌<◌, ◌+◌, ◌-◌, ◌++◌, ℕ, suc, Bool, true, false, List, [], ◌∷◌, cond, ap, sym, ◌∙◌, arith}
use Rattle.std.specs.List.{filter}
use Rattle.std.proofs.lemmas.List.{append_assoc}
use Rattle.retune_model.specs.Dump.{from_up}
use Rattle.channel_model.specs.MpeOutput.{Zone, member_at, members_from}

-- the next member is put behind those before
pub member_put : (zone : Zone) (i n : ℕ) (row whole : List ℕ) → i < n → row ++ members_from zone i (n - i) ≡ whole → (row ++ member_at zone i ∷ []) ++ members_from zone (i + 1) (n - (i + 1)) ≡ whole
member_put zone i n row whole l e =
    let s : n - i ≡ suc (n - (i + 1)) = omega (arith, l) in
    append_assoc row (member_at zone i ∷ []) (members_from zone (i + 1) (n - (i + 1))) ∙ ap (λ m. row ++ members_from zone i m) (sym s) ∙ e

-- the next channel is put, or passed over
pub channel_put : (f : ℕ → Bool) (i n : ℕ) (row whole : List ℕ) → i < n → f i ≡ true → row ++ filter f (from_up i (n - i)) ≡ whole → (row ++ i ∷ []) ++ filter f (from_up (i + 1) (n - (i + 1))) ≡ whole
channel_put f i n row whole l t e =
    let s : n - i ≡ suc (n - (i + 1)) = omega (arith, l) in
    let rest = filter f (from_up (i + 1) (n - (i + 1))) in
    append_assoc row (i ∷ []) rest ∙ ap (λ b. row ++ cond b (i ∷ rest) rest) (sym t) ∙ ap (λ m. row ++ filter f (from_up i m)) (sym s) ∙ e

pub channel_passed : (f : ℕ → Bool) (i n : ℕ) (row whole : List ℕ) → i < n → f i ≡ false → row ++ filter f (from_up i (n - i)) ≡ whole → row ++ filter f (from_up (i + 1) (n - (i + 1))) ≡ whole
channel_passed f i n row whole l t e =
    let s : n - i ≡ suc (n - (i + 1)) = omega (arith, l) in
    let rest = filter f (from_up (i + 1) (n - (i + 1))) in
    ap (λ b. row ++ cond b (i ∷ rest) rest) (sym t) ∙ ap (λ m. row ++ filter f (from_up i m)) (sym s) ∙ e
