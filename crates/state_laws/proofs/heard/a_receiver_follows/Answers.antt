use Rattle.state_laws.proofs.Laws.{laws}
use Rattle.state_laws.proofs.Brought.{plays}
use Rattle.state_laws.proofs.Arriving.{arrives, arrives_under, arrives_silent, stays_settled, sounds_no_more}
use Rattle.state_laws.proofs.Followed.{leaves_others, leaves_silent, ends_none}
use Rattle.state_laws.proofs.OnTheWay.{keeps_tuning, room_on_the_way}
use Rattle.state_laws.proofs.heard.a_receiver_follows.Goals as goal

pub returns-clause-plays : goal.returns-clause-plays
returns-clause-plays c =
    let e = c.parameter_laws.ensures in
    let l = laws e.given e.others e.form e.equal in
    λ m t track d now wanted b. plays l m t track d now wanted b.settled b.no_zone b.channel b.from b.to b.own

pub returns-clause-others : goal.returns-clause-others
returns-clause-others c =
    let e = c.parameter_laws.ensures in
    let l = laws e.given e.others e.form e.equal in
    λ m t track d now wanted b. λ x. leaves_others l m t track d x now wanted b.settled b.no_zone b.channel b.from b.to b.own

pub returns-clause-silent : goal.returns-clause-silent
returns-clause-silent c =
    let e = c.parameter_laws.ensures in
    let l = laws e.given e.others e.form e.equal in
    λ m t track d now wanted b. leaves_silent l m t track d now wanted b.settled b.no_zone b.channel b.from b.to b.own

pub returns-clause-none_ends : goal.returns-clause-none_ends
returns-clause-none_ends c =
    let e = c.parameter_laws.ensures in
    let l = laws e.given e.others e.form e.equal in
    λ m t track d now wanted b. λ p. ends_none l m t track d now wanted b.settled b.no_zone b.channel b.from b.to b.own p.hold p.sostenuto

pub returns-clause-no_more : goal.returns-clause-no_more
returns-clause-no_more c =
    let e = c.parameter_laws.ensures in
    let l = laws e.given e.others e.form e.equal in
    λ m t track d now wanted b. λ x k. sounds_no_more l m t track d x k now wanted b.settled b.no_zone b.channel b.from b.to b.own

pub returns-clause-room : goal.returns-clause-room
returns-clause-room c =
    let e = c.parameter_laws.ensures in
    let l = laws e.given e.others e.form e.equal in
    λ m t track d now wanted b. λ k. room_on_the_way l m t track d k now wanted b.settled b.no_zone b.channel b.from b.to b.own

pub returns-clause-tuning : goal.returns-clause-tuning
returns-clause-tuning c =
    let e = c.parameter_laws.ensures in
    let l = laws e.given e.others e.form e.equal in
    λ r t track d now wanted b. keeps_tuning l r t track d now wanted b.settled b.no_zone b.channel b.from b.to b.own

pub returns-clause-settled : goal.returns-clause-settled
returns-clause-settled c = stays_settled c.music_laws.ensures.settled

pub returns-clause-arrives : goal.returns-clause-arrives
returns-clause-arrives c =
    let e = c.parameter_laws.ensures in
    let l = laws e.given e.others e.form e.equal in
    λ m t track d wanted b. arrives l m t track d wanted b.settled b.no_zone b.channel b.from b.to

pub returns-clause-under_pedals : goal.returns-clause-under_pedals
returns-clause-under_pedals c =
    let e = c.parameter_laws.ensures in
    let l = laws e.given e.others e.form e.equal in
    λ m t track d wanted b once p. arrives_under l m t track d wanted b.settled b.no_zone b.channel b.from b.to once p.hold p.sostenuto

pub returns-clause-in_silence : goal.returns-clause-in_silence
returns-clause-in_silence c =
    let e = c.parameter_laws.ensures in
    let l = laws e.given e.others e.form e.equal in
    λ m t track d wanted b. arrives_silent l m t track d wanted b.settled b.no_zone b.channel b.from b.to
