use Rattle.std.proofs.Common.{◌∙◌, refl}
use Rattle.receiver.proofs.player.Player.control.Goals as goal

pub apply-requires-clause-room : goal.apply-requires-clause-room
apply-requires-clause-room c = rw (c.turn_notes.ensures.rest.states, c.requires.same) c.requires.room

pub set_zone-requires-clause-place : goal.set_zone-requires-clause-place
set_zone-requires-clause-place c = c.in-Some.ensures.place refl

pub returns-in-Some-clause-notes : goal.returns-in-Some-clause-notes
returns-in-Some-clause-notes c d k dl kl = c.set_zone.ensures.notes d k dl kl ∙ c.apply.ensures.notes d k dl kl ∙ c.turn_notes.ensures.notes d k dl kl

pub returns-in_default-clause-notes : goal.returns-in_default-clause-notes
returns-in_default-clause-notes c d k dl kl = c.apply.ensures.notes d k dl kl ∙ c.turn_notes.ensures.notes d k dl kl
