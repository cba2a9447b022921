use Rattle.std.proofs.Common.{rules, ◌∙◌, ap}
use Rattle.mt_base.specs.Midi.{view_what, Timed}
use Rattle.midi_model.specs.Writing.{Written, with_event}
use Rattle.smf_write.proofs.text.TrackText.put.Goals as goal

pub returns-clause-appended : goal.returns-clause-appended
returns-clause-appended c = grind (rules)

pub returns-clause-stands : goal.returns-clause-stands
returns-clause-stands c es is =
    let e : Timed = record { tick = c.args.tick; what = view_what c.args.what.now } in
    returns-clause-appended c ∙ ap (λ (w : Written). with_event w e) is ∙ c.writing_laws.ensures.appended es e

pub returns-clause-grows : goal.returns-clause-grows
returns-clause-grows c = grind (rules, c.append.ensures.grows, c.self.view_is)
