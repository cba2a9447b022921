use Rattle.std.proofs.Common.{rules, Some, set, refl, subst, arith}
use Rattle.lifetimes.specs.declared.port.Port.{Port}
use Rattle.lifetimes.specs.Port.{Begins}
use Rattle.lifetimes.proofs.Beginning.{begins}
use Rattle.lifetimes.proofs.port.Port.strike.Goals as goal

pub returns : goal.returns
returns c =
    let s = c.args.strike.now in
    let p = c.number.result in
    let old = c.args.self.now in
    let new : Port = record old { parts = set old.parts p c.begin.new.self } in
    subst (λ z. Begins (Some (record s { channel = z })) c.args.note old new) c.number.ensures.value
    (begins p s.key c.args.note s.target old new c.index-self-number.result c.begin.new.self (search rules)
    (omega (arith, c.number.ensures.bound)) c.requires refl
    c.begin.ensures.sounding c.begin.ensures.pairs c.begin.ensures.struck c.begin.ensures.rests refl refl)
