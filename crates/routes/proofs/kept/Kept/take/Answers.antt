use Rattle.std.proofs.Common.{◌≡◌, ◌<◌, ◌∙◌, ℕ, Option, length, sym, subst, rules, arith}
use Rattle.std.specs.Prelude.{IfSome}
use Rattle.mt_base.specs.Midi.{view_what}
use Rattle.routes.proofs.States.{message_key, message_alone, reset_next, other_next}
use Rattle.routes.proofs.kept.Kept.take.Goals as goal

pub returns-in-Some : goal.returns-in-Some
returns-in-Some c l is =
    let k = c.args.self.now in
    let all1 : length k.begun ≡ 256 = search rules in
    let all2 : length k.keys ≡ 256 = search rules in
    let low = subst (λ (x : Option ℕ). IfSome x (λ y. y < 128)) c.in-Some.is c.requires in
    message_key l k c.args.port c.in-Some.key (view_what c.args.what.now) (omega (arith, all1)) (omega (arith, all2)) low
    (sym c.is_message.ensures ∙ c.if-is_message.true) (sym c.in-Some.is ∙ is)

pub returns-in_default : goal.returns-in_default
returns-in_default c l is =
    let k = c.args.self.now in
    let all1 : length k.begun ≡ 256 = search rules in
    let all2 : length k.keys ≡ 256 = search rules in
    message_alone l k c.args.port (view_what c.args.what.now) (omega (arith, all1)) (omega (arith, all2))
    (sym c.is_message.ensures ∙ c.if-is_message.true) (sym c.in_default.is ∙ is)

pub returns-then-resets : goal.returns-then-resets
returns-then-resets c l is =
    let k = c.args.self.now in
    let all1 : length k.begun ≡ 256 = search rules in
    let all2 : length k.keys ≡ 256 = search rules in
    reset_next l k c.args.port (view_what c.args.what.now) (omega (arith, all1)) (omega (arith, all2)) (sym c.resets.ensures ∙ c.if-resets.true)

pub returns-else-resets : goal.returns-else-resets
returns-else-resets c l is =
    other_next l c.args.self.now c.args.port (view_what c.args.what.now) (sym c.is_message.ensures ∙ c.if-is_message.false)
    (sym c.resets.ensures ∙ c.if-resets.false)
