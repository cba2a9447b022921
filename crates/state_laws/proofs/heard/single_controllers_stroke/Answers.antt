use Rattle.state_laws.proofs.Strokes.{controls_stroke, reset_strokes}
use Rattle.state_laws.proofs.Alike.{strokes_agree}
use Rattle.state_laws.proofs.heard.single_controllers_stroke.Goals as goal

pub returns-clause-stored : goal.returns-clause-stored
returns-clause-stored c = λ m t track d n v h stored. controls_stroke m t track d n v h.settled h.no_zone h.channel stored h.controls

pub returns-clause-reset : goal.returns-clause-reset
returns-clause-reset c = λ m t track d v h. reset_strokes m t track d v h.settled h.no_zone h.channel h.controls

pub returns-clause-agree : goal.returns-clause-agree
returns-clause-agree c = λ t d e s now x wanted a b at bt h. strokes_agree t d e s now x wanted a b at bt h.sostenuto h.next_sostenuto h.next_hold
