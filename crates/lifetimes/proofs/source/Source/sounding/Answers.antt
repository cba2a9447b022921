use Rattle.std.proofs.Common.{rules, ◌<◌, ◌∙◌, refl, sym, ap, length, slice_index_or}
use Rattle.lifetimes.specs.Views.{options_of}
use Rattle.lifetimes.specs.Stands.{PortStands}
use Rattle.lifetimes.specs.Told.{sounding_on}
use Rattle.lifetimes.proofs.Places.{of_each, here, none_here, unused}
use Rattle.lifetimes.proofs.Unheard.{silent_key}
use Rattle.lifetimes.proofs.source.Source.sounding.Goals as goal

pub returns-then-place-self : goal.returns-then-place-self
returns-then-place-self c table es s =
    let x = c.index-self-place.result in
    let o = options_of c.args.self.now.options in
    let ports = c.args.self.now.ports in
    let place = c.place-place.result in
    let within : place < length ports = search rules in
    let y = slice_index_or ports place x in
    let number = here (λ p. p.number) ports c.args.self.now.used c.args.part.port place y x c.place-place.ensures.place c.if-place-self.true within refl in
    let stands = of_each (PortStands o table es) ports c.args.self.now.used place y x c.if-place-self.true within refl s.ports in
    c.begun.ensures o table es stands ∙ ap (λ z. sounding_on o table es (record { port = z; channel = c.args.part.channel }) c.args.key) number

pub returns-else-place-self : goal.returns-else-place-self
returns-else-place-self c table es s =
    let none = none_here (λ p. p.number) c.args.self.now.ports c.args.self.now.used c.args.part.port c.place-place.result c.place-place.ensures.place c.if-place-self.false in
    sym (silent_key (options_of c.args.self.now.options) table es c.args.part c.args.key (unused _ _ _ s.numbers none))
