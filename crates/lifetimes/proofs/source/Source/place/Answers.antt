use Rattle.std.proofs.Common.{rules, ◌≡◌, ◌≤◌, ◌<◌, ◌∙◌, refl, sym, ap, suc, length, drop, arith, ◌+◌, subst}
use Rattle.lifetimes.specs.Stands.{place_of, place_from, numbers_in}
use Rattle.lifetimes.proofs.Places.{map_from, none_map, another, found}
use Rattle.lifetimes.proofs.source.Source.place.Goals as goal

pub loop-place-init : goal.loop-place-init
loop-place-init c = record { within = search rules; rest = refl }

pub loop-place-preserved : goal.loop-place-preserved
loop-place-preserved c =
    let x = c.index-self-place.result in
    let inside : c.loop-place.place < length c.args.self.now.ports = search rules in
    let here = map_from (λ p. p.number) c.args.self.now.ports c.args.self.now.used c.loop-place.place x x c.loop-place-test.true inside c.index-self-place.is in
    let next : suc c.loop-place.place ≡ c.loop-place.place + 1 = omega arith in
    let rest = ap (place_from c.loop-place.place c.args.port) here ∙ another c.loop-place.place c.args.port x.number _ (λ e. c.if-self-place.true (ap (λ p. p.number) (sym c.index-self-place.is) ∙ e)) in
    record { within = search rules; rest = subst (λ i. place_from i c.args.port (drop i (numbers_in c.args.self.now)) ≡ place_of c.args.self.now c.args.port) next (sym rest ∙ c.loop-place.invariant.rest) }

pub returns-else-self-place-clause-place : goal.returns-else-self-place-clause-place
returns-else-self-place-clause-place c =
    let x = c.index-self-place.result in
    let inside : c.loop-place.place < length c.args.self.now.ports = search rules in
    let here = map_from (λ p. p.number) c.args.self.now.ports c.args.self.now.used c.loop-place.place x x c.loop-place-test.true inside c.index-self-place.is in
    sym (found c.loop-place.place c.args.port x.number _ (ap (λ p. p.number) c.index-self-place.is ∙ c.if-self-place.false)) ∙ (sym (ap (place_from c.loop-place.place c.args.port) here) ∙ c.loop-place.invariant.rest)

pub returns-after-loop-place-clause-place : goal.returns-after-loop-place-clause-place
returns-after-loop-place-clause-place c =
    let le : c.args.self.now.used ≤ c.loop-place.place = search rules in
    let none = none_map (λ p. p.number) c.args.self.now.ports c.args.self.now.used c.loop-place.place le in
    sym (ap (place_from c.loop-place.place c.args.port) none) ∙ c.loop-place.invariant.rest

pub returns-after-loop-place-clause-bound : goal.returns-after-loop-place-clause-bound
returns-after-loop-place-clause-bound c = c.loop-place.invariant.within
