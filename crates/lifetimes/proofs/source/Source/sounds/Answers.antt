use Rattle.std.proofs.Common.{rules, ◌≡◌, ◌≤◌, ◌<◌, ◌∙◌, refl, sym, ap, length, slice_index_or, nat_lt, false, to_z, of_z, w32}
use Rattle.lifetimes.specs.Views.{options_of, pair_of}
use Rattle.lifetimes.specs.Stands.{PortStands, pair_on}
use Rattle.lifetimes.specs.Told.{pair_sounds, is_sounding}
use Rattle.lifetimes.proofs.Places.{of_each, here, none_here, unused}
use Rattle.lifetimes.proofs.Unheard.{silent_pair}
use Rattle.lifetimes.proofs.PairSets.{is_sounding_tells}
use Rattle.lifetimes.proofs.source.Source.sounds.Goals as goal

pub returns-then-place-self-clause-sounds : goal.returns-then-place-self-clause-sounds
returns-then-place-self-clause-sounds c table es s =
    let x = c.index-self-place.result in
    let o = options_of c.args.self.now.options in
    let within : c.place-place.result < length c.args.self.now.ports = search rules in
    let few : c.place-place.result < c.args.self.now.used = search rules in
    let ports = c.args.self.now.ports in
    let number = here (λ p. p.number) ports c.args.self.now.used c.args.pair.now.part.port c.place-place.result (slice_index_or ports c.place-place.result x) x c.place-place.ensures.place few within refl in
    let stands = of_each (PortStands o table es) ports c.args.self.now.used c.place-place.result (slice_index_or ports c.place-place.result x) x few within refl s.ports in
    let steps : to_z w32 (of_z w32 c.args.pair.now.steps) ≡ c.args.pair.now.steps = search rules in
    c.sounds.ensures.sounds o table es s.valid stands
    ∙ ap (λ q. pair_sounds o table es (pair_on (slice_index_or ports c.place-place.result x).number c.args.pair.now.part.channel q)) steps
    ∙ ap (λ z. pair_sounds o table es (pair_on z c.args.pair.now.part.channel c.args.pair.now.steps)) number

pub returns-then-place-self-clause-pairs : goal.returns-then-place-self-clause-pairs
returns-then-place-self-clause-pairs c table es s bends =
    let x = c.index-self-place.result in
    let o = options_of c.args.self.now.options in
    let within : c.place-place.result < length c.args.self.now.ports = search rules in
    let few : c.place-place.result < c.args.self.now.used = search rules in
    let ports = c.args.self.now.ports in
    let number = here (λ p. p.number) ports c.args.self.now.used c.args.pair.now.part.port c.place-place.result (slice_index_or ports c.place-place.result x) x c.place-place.ensures.place few within refl in
    let stands = of_each (PortStands o table es) ports c.args.self.now.used c.place-place.result (slice_index_or ports c.place-place.result x) x few within refl s.ports in
    let steps : to_z w32 (of_z w32 c.args.pair.now.steps) ≡ c.args.pair.now.steps = search rules in
    c.sounds.ensures.pairs o table es s.valid s.order s.faultless stands bends
    ∙ ap (λ q. is_sounding o table es (pair_on (slice_index_or ports c.place-place.result x).number c.args.pair.now.part.channel q)) steps
    ∙ ap (λ z. is_sounding o table es (pair_on z c.args.pair.now.part.channel c.args.pair.now.steps)) number

pub returns-else-place-self-clause-sounds : goal.returns-else-place-self-clause-sounds
returns-else-place-self-clause-sounds c table es s =
    let late : c.args.self.now.used ≤ c.place-place.result = c.if-place-self.false in
    let shut : nat_lt c.place-place.result c.args.self.now.used ≡ false = search rules in
    let none = none_here (λ p. p.number) c.args.self.now.ports c.args.self.now.used c.args.pair.now.part.port c.place-place.result c.place-place.ensures.place late in
    shut ∙ sym (silent_pair (options_of c.args.self.now.options) table es (pair_of c.args.pair.now) (unused _ _ _ s.numbers none))

pub returns-else-place-self-clause-pairs : goal.returns-else-place-self-clause-pairs
returns-else-place-self-clause-pairs c table es s bends =
    let late : c.args.self.now.used ≤ c.place-place.result = c.if-place-self.false in
    let shut : nat_lt c.place-place.result c.args.self.now.used ≡ false = search rules in
    let none = none_here (λ p. p.number) c.args.self.now.ports c.args.self.now.used c.args.pair.now.part.port c.place-place.result c.place-place.ensures.place late in
    let o = options_of c.args.self.now.options in
    let p = c.args.pair.now.part in
    shut ∙ sym (silent_pair o table es (pair_of c.args.pair.now) (unused _ _ _ s.numbers none))
    ∙ is_sounding_tells c.rests_are_runs.ensures.pairs c.sound_sources.ensures.aimed c.rests_as_written.ensures.holds c.position_laws.ensures.music o table es p.port p.channel c.args.pair.now.steps bends s.order s.faultless
