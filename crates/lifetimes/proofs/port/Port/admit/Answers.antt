use Rattle.std.proofs.Common.{rules, ◌≡◌, ◌<◌, ◌∙◌, [], ℤ, length, sym, ap, arith, w32, to_z, of_z}
use Rattle.lifetimes.specs.Lists.{entry_of}
use Rattle.lifetimes.proofs.EachPart.{part_struck, part_listed}
use Rattle.lifetimes.proofs.Beginning.{same_field, on_ok, admits_ends, admits_kept, admits_place}
use Rattle.lifetimes.proofs.port.Port.admit.Goals as goal

pub returns-clause-struck : goal.returns-clause-struck
returns-clause-struck c e cl =
    let old = c.args.self.now in
    let p = c.number.result in
    let x = c.index-self-number.result in
    let lo : length old.parts ≡ 16 = search rules in
    let low : p < 16 = omega (arith, c.number.ensures.bound) in
    same_field (λ m. m.struck) old.parts p x c.admit.new.self [] (omega (arith, low, lo))
    (c.admit.ensures.struck ∙ sym (part_struck old p x lo low)) e

pub returns-clause-listed : goal.returns-clause-listed
returns-clause-listed c e cl =
    let old = c.args.self.now in
    let p = c.number.result in
    let x = c.index-self-number.result in
    let lo : length old.parts ≡ 16 = search rules in
    let low : p < 16 = omega (arith, c.number.ensures.bound) in
    same_field (λ m. m.sounding.items) old.parts p x c.admit.new.self [] (omega (arith, low, lo))
    (ap (λ s. s.items) c.admit.ensures.sounding ∙ sym (part_listed old p x lo low)) e

pub returns-clause-rests : goal.returns-clause-rests
returns-clause-rests c e q cl =
    admits_ends c.number.result c.args.self.now c.index-self-number.result c.admit.new.self (search rules) (omega (arith, c.number.ensures.bound))
    c.admit.ensures.sounding c.admit.ensures.ends c.admit.ensures.admitted e q cl

pub returns-clause-kept : goal.returns-clause-kept
returns-clause-kept c tail k some =
    admits_kept c.number.result c.args.self.now c.index-self-number.result c.admit.new.self (search rules) (omega (arith, c.number.ensures.bound))
    c.admit.ensures.sounding c.admit.ensures.ends c.admit.ensures.admitted (k some)

pub returns-clause-place : goal.returns-clause-place
returns-clause-place c =
    let s = c.args.strike.now in
    let q : ℤ = (entry_of s.key s.target).steps in
    let same : to_z w32 (of_z w32 c.sounding_of.result.steps) ≡ c.sounding_of.result.steps = search rules in
    let is : to_z w32 (of_z w32 c.sounding_of.result.steps) ≡ q = same ∙ ap (λ e. e.steps) c.sounding_of.ensures in
    on_ok c.admit.result
    (λ a tail some. admits_place c.number.result c.args.self.now c.index-self-number.result c.admit.new.self (search rules)
    (omega (arith, c.number.ensures.bound))
    c.admit.ensures.sounding c.admit.ensures.ends c.admit.ensures.admitted s.channel q _ c.number.ensures.value is a)
    c.admit.ensures.here
