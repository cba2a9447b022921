use Rattle.state_laws.proofs.Laws.{laws}
use Rattle.state_laws.proofs.Rooms.{only_settings, valid_ones, has_room}
use Rattle.state_laws.proofs.sent.messages_only_set.Goals as goal

pub returns-clause-settings : goal.returns-clause-settings
returns-clause-settings c =
    let e = c.parameter_laws.ensures in
    let l = laws e.given e.others e.form e.equal in
    λ d now wanted f t ok. only_settings l d now wanted ok f t

pub returns-clause-valid : goal.returns-clause-valid
returns-clause-valid c =
    let e = c.parameter_laws.ensures in
    let l = laws e.given e.others e.form e.equal in
    λ d now wanted f t ok. valid_ones l d now wanted ok f t

pub returns-clause-room : goal.returns-clause-room
returns-clause-room c =
    let e = c.parameter_laws.ensures in
    let l = laws e.given e.others e.form e.equal in
    λ d now wanted f t k ok. has_room l d k now wanted ok f t
