use Rattle.std.proofs.Common.{◌≡◌, ◌∙◌, ◌++◌, ◌∷◌, ◌*◌, ◌^◌, ◌%◌, ℕ, suc, [], bit_or, set, slice_index, length, sym, subst, rules, arith}
use Rattle.retune_model.specs.Ports.{events_on}
use Rattle.lifetimes.specs.Told.{count_begun}
use Rattle.lifetimes.specs.Noted.{AreNoted}
use Rattle.lifetimes.proofs.NotedParts.{noted_still, noted_more}
use Rattle.lifetimes.proofs.noted.Noted.take.Goals as goal

pub returns-in-Some : goal.returns-in-Some
returns-in-Some c o table es e tells is z low =
    let masks = c.args.self.now.parts in
    let port = c.args.change.now.port in
    let full : length masks ≡ 256 = search rules in
    subst (λ (k : ℕ). AreNoted o (events_on z (es ++ e ∷ [])) (slice_index (set masks port (bit_or (slice_index masks port) (1 * 2 ^ k % 2 ^ 16))) z)) (sym c.number.ensures.value)
    (noted_more o table es e (suc (count_begun o es)) port z masks c.in-Some.begun (omega (arith, c.number.ensures.bound, c.number.ensures.value)) tells.port (omega (arith, full)) (sym c.in-Some.is ∙ tells.begun) (is z low))

pub returns-in_default : goal.returns-in_default
returns-in_default c o table es e tells is z low =
    noted_still o table es e (suc (count_begun o es)) z (slice_index c.args.self.now.parts z) c.args.change.now.begun c.in_default.is tells.begun (is z low)
