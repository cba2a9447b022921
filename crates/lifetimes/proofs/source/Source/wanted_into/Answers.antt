use Rattle.std.proofs.Common.{rules, ◌≡◌, ◌<◌, ◌∙◌, ◌+ℤ◌, ℕ, pos, List, refl, sym, ap, length, slice_index_or, replicate, to_z, of_z, w32}
use Rattle.midi_model.specs.Channel.{Channel, State, default_channel}
use Rattle.channel_model.specs.Choice.{bend_value, wanted}
use Rattle.receiver.specs.State.{own_of}
use Rattle.lifetimes.specs.Views.{options_of, pair_of}
use Rattle.lifetimes.specs.Stands.{PortStands, pair_on}
use Rattle.lifetimes.specs.Told.{music_on}
use Rattle.lifetimes.proofs.AtRest.{bent_channel, wanted_at_rest}
use Rattle.lifetimes.proofs.Places.{of_each, here, none_here, unused}
use Rattle.lifetimes.proofs.Unheard.{unheard_port}
use Rattle.lifetimes.proofs.source.Source.wanted_into.Goals as goal

pub returns-then-place-self-clause-state : goal.returns-then-place-self-clause-state
returns-then-place-self-clause-state c table es s =
    let x = c.index-self-place.result in
    let o = options_of c.args.self.now.options in
    let p = c.args.pair.now.part in
    let ports = c.args.self.now.ports in
    let place = c.place-place.result in
    let used = c.args.self.now.used in
    let within : place < length ports = search rules in
    let y = slice_index_or ports place x in
    let number = here (λ p. p.number) ports used p.port place y x c.place-place.ensures.place c.if-place-self.true within refl in
    let stands = of_each (PortStands o table es) ports used place y x c.if-place-self.true within refl s.ports in
    let steps : to_z w32 (of_z w32 c.args.pair.now.steps) ≡ c.args.pair.now.steps = search rules in
    c.wanted_into.ensures.state o table es s.valid s.order s.faultless stands refl c.requires.bends c.requires.part
    ∙ ap (λ q. wanted o table (music_on y.number es) (pair_on y.number p.channel q)) steps
    ∙ ap (λ z. wanted o table (music_on z es) (pair_on z p.channel c.args.pair.now.steps)) number

pub returns-clause-state : goal.returns-clause-state
returns-clause-state c table es s =
    let o = options_of c.args.self.now.options in
    let p = pair_of c.args.pair.now in
    let z = p.part.port in
    let none = none_here (λ p. p.number) c.args.self.now.ports c.args.self.now.used z c.place-place.result c.place-place.ensures.place
    c.if-place-self.false in
    let steps : to_z w32 (of_z w32 c.args.pair.now.steps) ≡ c.args.pair.now.steps = search rules in
    let full = bend_value ((pos 8192 +ℤ p.steps) +ℤ pos 0) in
    let bend : c.bend_value.result ≡ full = c.bend_value.ensures.value ∙ ap (λ q. bend_value ((pos 8192 +ℤ q) +ℤ pos 0)) steps in
    let own : own_of c.set_bend.new.self ≡ (bent_channel default_channel o.range full).own =
    c.set_bend.ensures.own
    ∙ (ap (λ (s : Channel). let r : Channel = record s { bend = c.bend_value.result } in r) c.bend_range.ensures.own
    ∙ (ap (λ s. (bent_channel s o.range c.bend_value.result).own) c.new.ensures.own
    ∙ ap (λ b. (bent_channel default_channel o.range b).own) bend)) in
    let keys : c.set_bend.new.self.keys.items ≡ replicate 128 0 =
    ap (λ t. t.items) c.set_bend.ensures.keys ∙ (ap (λ t. t.items) c.bend_range.ensures.keys ∙ c.new.ensures.keys) in
    ap (λ (s : Channel). let r : State = record { own = s; keys = c.set_bend.new.self.keys.items } in r) own
    ∙ (ap (λ (ks : List ℕ). let r : State = record { own = (bent_channel default_channel o.range full).own; keys = ks } in r) keys
    ∙ sym (ap (λ m. wanted o table m p) (unheard_port z es (unused _ _ _ s.numbers none))
    ∙ wanted_at_rest o table p c.args.self.now.range_some))
