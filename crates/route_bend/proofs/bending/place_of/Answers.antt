use Rattle.std.proofs.Common.{get_or, arith}
use Rattle.std.proofs.lemmas.Bool.{eq-eqb}
use Rattle.route_bend.proofs.Found.{found_behind, none_found}
use Rattle.route_bend.proofs.bending.place_of.Goals as goal

pub returns-then-ports-place-clause-some : goal.returns-then-ports-place-clause-some
returns-then-ports-place-clause-some c =
    let ss = c.args.ports.now in
    let s = c.index-ports-place.result in
    let low = c.loop-place-test.true in
    found_behind ss c.args.port c.loop-place.place s (omega (arith, low)) c.loop-place.invariant.others
    (eq-eqb (get_or ss c.loop-place.place s).port c.args.port c.if-ports-place.true)

pub returns-clause-none : goal.returns-clause-none
returns-clause-none c =
    let end = c.loop-place-test.false in
    none_found c.args.ports.now c.args.port (λ j d l. c.loop-place.invariant.others j d (omega (arith, l, end)))
