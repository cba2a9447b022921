use Rattle.std.proofs.Common.{◌≡◌, ◌<◌, ◌∙◌, sym, arith, rules, w32, to_z, of_z}
use Rattle.std.proofs.lemmas.Int.{ints}
use Rattle.lifetimes.specs.Views.{options_of}
use Rattle.lifetimes.proofs.BendNow.{told_found, told_none}
use Rattle.lifetimes.proofs.port.Port.bend_fault.Goals as goal

pub returns-in-Some : goal.returns-in-Some
returns-in-Some c table es e z next tick part aimed left =
    let channel : c.args.channel < 16 = search rules in
    let steps : to_z w32 (of_z w32 c.in-Some.steps) ≡ c.in-Some.steps = search rules in
    let low = c.requires.low in
    let high = c.requires.high in
    let moved : to_z w32 (of_z w32 c.args.moved) ≡ c.args.moved = omega (arith, ints, low, high) in
    told_found c.bend_laws.ensures (options_of c.args.options.now) table es e z c.args.channel c.args.self.now _ _ c.args.tick c.args.moved _ _ _ next
    (sym c.is_bend.ensures ∙ c.if-not-is_bend.false) c.requires.range_some channel part aimed left c.notes.ensures.listed c.notes.ensures.rests tick moved steps c.in-Some.ensures.some

pub returns-in-None : goal.returns-in-None
returns-in-None c table es e z next tick part aimed left =
    let channel : c.args.channel < 16 = search rules in
    let low = c.requires.low in
    let high = c.requires.high in
    let moved : to_z w32 (of_z w32 c.args.moved) ≡ c.args.moved = omega (arith, ints, low, high) in
    told_none c.bend_laws.ensures (options_of c.args.options.now) table es e z c.args.channel c.args.self.now _ _ c.args.tick c.args.moved _ next
    (sym c.is_bend.ensures ∙ c.if-not-is_bend.false) c.requires.range_some channel part aimed left c.notes.ensures.listed c.notes.ensures.rests tick moved c.in-None.ensures.none
