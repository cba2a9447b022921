-- How many channels there are, port by port.
use Rattle.std.proofs.Common.{◌≡◌, ◌+◌, ℕ, zero, suc, [], ◌∷◌, ◌++◌, refl, ap, ◌∙◌, arith}
use Rattle.std.specs.Prelude.{sum_by}
use Rattle.std.proofs.lemmas.List.Sums.{sum_by_push}
use Rattle.retune_model.specs.Dump.{from_up}
use Rattle.channel_plan.specs.declared.plan.Plan.{Plan}
use Rattle.plan_report.specs.Told.{channels_below, channels_of_port}

from_up_more : (c n : ℕ) → from_up c (n + 1) ≡ from_up c n ++ (c + n) ∷ []
from_up_more c zero = ap (λ x. x ∷ []) (omega arith)
from_up_more c (suc n) =
    let more : suc n + 1 ≡ suc (n + 1) = omega arith in
    let last : (c + 1) + n ≡ c + suc n = omega arith in
    ap (from_up c) more ∙ ap (λ xs. c ∷ xs) (from_up_more (c + 1) n) ∙ ap (λ x. c ∷ (from_up (c + 1) n ++ x ∷ [])) last

-- none on no port
pub no_port : (plan : Plan) → channels_below plan 0 ≡ 0
unfolding channels_below
no_port plan = refl

-- with those of the next port
pub next_port : (plan : Plan) (n : ℕ) → channels_below plan (n + 1) ≡ channels_below plan n + channels_of_port plan n
unfolding channels_below
next_port plan n =
    let f = channels_of_port plan in
    let last : 0 + n ≡ n = omega arith in
    ap (sum_by f) (from_up_more 0 n ∙ ap (λ z. from_up 0 n ++ z ∷ []) last) ∙ sum_by_push f (from_up 0 n) n
