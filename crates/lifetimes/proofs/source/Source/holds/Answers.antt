use Rattle.std.proofs.Common.{rules, ◌≡◌, ◌≤◌, ◌<◌, ◌∙◌, refl, sym, ap, length, slice_index_or, to_z, of_z, w32, true, false}
use Rattle.retune_model.specs.Faults.{is_part}
use Rattle.lifetimes.specs.Views.{options_of, pair_of}
use Rattle.lifetimes.specs.Stands.{PortStands, pair_on}
use Rattle.lifetimes.specs.Told.{pair_holds}
use Rattle.lifetimes.proofs.Places.{of_each, here, none_here, unused}
use Rattle.lifetimes.proofs.Opening.{unheld_port}
use Rattle.lifetimes.proofs.PairSets.{unheld, unheld_pair, is_held_tells}
use Rattle.lifetimes.proofs.source.Source.holds.Goals as goal

pub returns-then-place-self-clause-holds : goal.returns-then-place-self-clause-holds
returns-then-place-self-clause-holds c table es s =
    let late : c.args.self.now.used ≤ c.place-place.result = search rules in
    let none = none_here (λ p. p.number) c.args.self.now.ports c.args.self.now.used c.args.pair.now.part.port c.place-place.result c.place-place.ensures.place late in
    sym (unheld_port c.position_laws.ensures.music (options_of c.args.self.now.options) table es (pair_of c.args.pair.now) (unused _ _ _ s.numbers none))

pub returns-then-place-self-clause-pairs : goal.returns-then-place-self-clause-pairs
returns-then-place-self-clause-pairs c table es s bends =
    let o = options_of c.args.self.now.options in
    let p = c.args.pair.now.part in
    returns-then-place-self-clause-holds c table es s
    ∙ is_held_tells c.rests_are_runs.ensures.pairs c.sound_sources.ensures.aimed o table es p.port p.channel c.args.pair.now.steps bends s.order s.faultless

pub returns-then-not-retunes-clause-holds : goal.returns-then-not-retunes-clause-holds
returns-then-not-retunes-clause-holds c table es s =
    let o = options_of c.args.self.now.options in
    let p = c.args.pair.now.part in
    let kept : is_part o p.channel ≡ false = search rules in
    sym (unheld o table es p.port p.channel c.args.pair.now.steps kept)

pub returns-then-not-retunes-clause-pairs : goal.returns-then-not-retunes-clause-pairs
returns-then-not-retunes-clause-pairs c table es s bends =
    let o = options_of c.args.self.now.options in
    let p = c.args.pair.now.part in
    let kept : is_part o p.channel ≡ false = search rules in
    sym (unheld_pair c.rests_are_runs.ensures.pairs c.sound_sources.ensures.aimed o table es p.port p.channel c.args.pair.now.steps bends s.order s.faultless kept)

pub returns-clause-holds : goal.returns-clause-holds
returns-clause-holds c table es s =
    let x = c.index-self-place.result in
    let o = options_of c.args.self.now.options in
    let p = c.args.pair.now.part in
    let ports = c.args.self.now.ports in
    let place = c.place-place.result in
    let within : place < length ports = search rules in
    let few : place < c.args.self.now.used = search rules in
    let part : is_part o p.channel ≡ true = search rules in
    let y = slice_index_or ports place x in
    let number = here (λ p. p.number) ports c.args.self.now.used p.port place y x c.place-place.ensures.place few within refl in
    let stands = of_each (PortStands o table es) ports c.args.self.now.used place y x few within refl s.ports in
    let steps : to_z w32 (of_z w32 c.args.pair.now.steps) ≡ c.args.pair.now.steps = search rules in
    c.holds.ensures.holds o table es s.valid s.order stands refl s.tick part
    ∙ ap (λ q. pair_holds o table es (pair_on y.number p.channel q)) steps
    ∙ ap (λ z. pair_holds o table es (pair_on z p.channel c.args.pair.now.steps)) number

pub returns-clause-pairs : goal.returns-clause-pairs
returns-clause-pairs c table es s bends =
    let o = options_of c.args.self.now.options in
    let p = c.args.pair.now.part in
    returns-clause-holds c table es s
    ∙ is_held_tells c.rests_are_runs.ensures.pairs c.sound_sources.ensures.aimed o table es p.port p.channel c.args.pair.now.steps bends s.order s.faultless
