use Rattle.std.proofs.Common.{◌≡◌, ◌∙◌, true, false, sym, ap, subst}
use Rattle.std.specs.Prelude.{IsTrue, ◌↔◌}
use Rattle.mt_base.specs.declared.event.Msg.{Msg}
use Rattle.mt_base.specs.Midi.{Says, view_what}
use Rattle.receiver.specs.Stands.{HasRoom}
use Rattle.lifetimes.specs.Due.{IsNext}
use Rattle.lifetimes.specs.Told.{strike_of}
use Rattle.lifetimes.specs.Views.{options_of}
use Rattle.lifetimes.proofs.StruckNow.{some_mapped}
use Rattle.lifetimes.proofs.KindsInTurn.{early_found, none_early, room_due, many_due, late_is_due}
use Rattle.lifetimes.proofs.port.Port.fault.Goals as goal

pub returns-then-is_some-clause-fault : goal.returns-then-is_some-clause-fault
returns-then-is_some-clause-fault c z table es e valid order faultless stands what tick here part struck =
    let o = options_of c.args.options.now in
    let message : Msg = c.args.message.now in
    let next : IsNext o table es e z c.args.self.now = record { valid = valid; order = order; faultless = faultless; stands = stands; here = here } in
    let says : e.what ≡ Says message = what ∙ c.requires.message in
    early_found o table es e z message _ says
    (c.early_fault-fault.ensures table es e z next says tick part (struck ∙ ap (strike_of o table c.args.tick) c.requires.message))
    (some_mapped _ c.early_fault-fault.result ∙ (sym c.is_some.ensures ∙ c.if-is_some.true))

pub returns-then-not-room-clause-fault : goal.returns-then-not-room-clause-fault
returns-then-not-room-clause-fault c z table es e valid order faultless stands what tick here part struck =
    let o = options_of c.args.options.now in
    let message : Msg = c.args.message.now in
    let next : IsNext o table es e z c.args.self.now = record { valid = valid; order = order; faultless = faultless; stands = stands; here = here } in
    let says : e.what ≡ Says message = what ∙ c.requires.message in
    let none = none_early o table es e z message _
    (c.early_fault-fault.ensures table es e z next says tick part (struck ∙ ap (strike_of o table c.args.tick) c.requires.message))
    (some_mapped _ c.early_fault-fault.result ∙ (sym c.is_some.ensures ∙ c.if-is_some.false)) in
    many_due o table es e z message says none
    (room_due c.music_laws.ensures.settled c.position_laws.ensures.music c.zone_entries_set_zones.ensures c.drums_stand_apart.ensures.music
    o table es e z c.args.self.now message next says part none c.room.result
    (subst (λ w. IsTrue c.room.result ↔ HasRoom c.args.self.now.player w) c.requires.message c.room.ensures.own)
    false c.if-not-room.true)

pub returns-clause-fault : goal.returns-clause-fault
returns-clause-fault c z table es e valid order faultless stands what tick here part struck =
    let o = options_of c.args.options.now in
    let message : Msg = c.args.message.now in
    let next : IsNext o table es e z c.args.self.now = record { valid = valid; order = order; faultless = faultless; stands = stands; here = here } in
    let says : e.what ≡ Says message = what ∙ c.requires.message in
    let none = none_early o table es e z message _
    (c.early_fault-fault.ensures table es e z next says tick part (struck ∙ ap (strike_of o table c.args.tick) c.requires.message))
    (some_mapped _ c.early_fault-fault.result ∙ (sym c.is_some.ensures ∙ c.if-is_some.false)) in
    c.late_fault.ensures table es e z next says part
    (struck ∙ (ap (λ t. strike_of o table t (view_what c.args.what.now)) (sym tick) ∙ ap (strike_of o table e.tick) (sym what)))
    ∙ late_is_due o table es e z message says none
    (room_due c.music_laws.ensures.settled c.position_laws.ensures.music c.zone_entries_set_zones.ensures c.drums_stand_apart.ensures.music
    o table es e z c.args.self.now message next says part none c.room.result
    (subst (λ w. IsTrue c.room.result ↔ HasRoom c.args.self.now.player w) c.requires.message c.room.ensures.own)
    true c.if-not-room.false)
