use Rattle.std.proofs.Common.{rules, ◌≡◌, ◌≤◌, ◌<◌, ◌∙◌, ◌++◌, ◌∷◌, [], ap, sym, refl, true, false, length}
use Rattle.mt_base.specs.Midi.{view, channel_of}
use Rattle.mt_base.specs.Valid.{IsValidEvent}
use Rattle.retune_model.specs.Faults.{is_part}
use Rattle.retune_model.specs.Ports.{all_zero, port_at}
use Rattle.retune_model.specs.SourceFaults.{ports_used}
use Rattle.lifetimes.specs.Views.{options_of}
use Rattle.lifetimes.specs.Told.{due_kind, strike_of}
use Rattle.lifetimes.specs.Stands.{numbers_in}
use Rattle.lifetimes.proofs.Places.{all_more, none_here, unused}
use Rattle.lifetimes.proofs.Standing.{stands_at}
use Rattle.lifetimes.proofs.Fifth.{drum_due}
use Rattle.lifetimes.proofs.OfAMessage.{breaks_none, breaks_some}
use Rattle.lifetimes.proofs.source.Source.message_fault.Goals as goal

pub returns-then-place-lt4-clause-fault : goal.returns-then-place-lt4-clause-fault
returns-then-place-lt4-clause-fault c table es next =
    let o = options_of c.args.self.now.options in
    let e = view c.args.event.now in
    let z = c.args.port in
    let none : is_part o (channel_of c.args.message.now) ≡ false = search rules in
    let breaks = breaks_none table c.args.self.now es e z c.place-place.result _ c.args.message.now next c.requires.message c.place-place.ensures.place (search rules) in
    sym (ap (λ b. due_kind o table b (port_at (es ++ e ∷ []) z) (length es) e) breaks ∙ drum_due o table false (port_at (es ++ e ∷ []) z) (length es) e c.args.message.now c.requires.message none)

pub returns-else-place-lt4-clause-fault : goal.returns-else-place-lt4-clause-fault
returns-else-place-lt4-clause-fault c table es next =
    let o = options_of c.args.self.now.options in
    let e = view c.args.event.now in
    let z = c.args.port in
    let none : is_part o (channel_of c.args.message.now) ≡ false = search rules in
    let breaks = breaks_some table c.args.self.now es e z c.place-place.result _ c.args.message.now next c.requires.message c.place-place.ensures.place (search rules) in
    sym (ap (λ b. due_kind o table b (port_at (es ++ e ∷ []) z) (length es) e) breaks ∙ drum_due o table true (port_at (es ++ e ∷ []) z) (length es) e c.args.message.now c.requires.message none)

pub returns-then-place-lt4-2-clause-fault : goal.returns-then-place-lt4-2-clause-fault
returns-then-place-lt4-2-clause-fault c table es next =
    let o = options_of c.args.self.now.options in
    let e = view c.args.event.now in
    let z = c.args.port in
    let part : is_part o (channel_of c.args.message.now) ≡ true = search rules in
    let within : c.place-place.result < length c.args.self.now.ports = search rules in
    let stands = stands_at c.position_laws.ensures.music c.sound_sources.ensures.fine table c.args.self.now es z c.place-place.result c.index-self-place.result next.stands c.place-place.ensures.place c.place-place.ensures.bound within in
    let breaks = breaks_none table c.args.self.now es e z c.place-place.result _ c.args.message.now next c.requires.message c.place-place.ensures.place (search rules) in
    c.fault.ensures.fault z table es e (all_more IsValidEvent es e next.stands.valid next.valid) next.order next.stands.faultless stands refl refl (sym next.at) part next.begins
    ∙ ap (λ b. due_kind o table b (port_at (es ++ e ∷ []) z) (length es) e) (sym breaks)

pub returns-else-place-lt4-2-clause-fault : goal.returns-else-place-lt4-2-clause-fault
returns-else-place-lt4-2-clause-fault c table es next =
    let o = options_of c.args.self.now.options in
    let e = view c.args.event.now in
    let z = c.args.port in
    let part : is_part o (channel_of c.args.message.now) ≡ true = search rules in
    let breaks = breaks_some table c.args.self.now es e z c.place-place.result _ c.args.message.now next c.requires.message c.place-place.ensures.place (search rules) in
    let late : c.args.self.now.used ≤ c.place-place.result = search rules in
    let unheard = unused z (numbers_in c.args.self.now) (ports_used all_zero [] es) next.stands.numbers (none_here (λ p. p.number) c.args.self.now.ports c.args.self.now.used z c.place-place.result c.place-place.ensures.place late) in
    c.fifth_fault.ensures table es e z
    (record { valid = all_more IsValidEvent es e next.stands.valid next.valid; order = next.order; faultless = next.stands.faultless; at = sym next.at; unheard = unheard })
    c.requires.message refl part (next.begins ∙ ap (strike_of o table e.tick) c.requires.message)
    ∙ ap (λ b. due_kind o table b (port_at (es ++ e ∷ []) z) (length es) e) (sym breaks)
