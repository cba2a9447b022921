use Rattle.state_laws.proofs.Laws.{laws}
use Rattle.state_laws.proofs.Keeping.{well_at_first, well_after}
use Rattle.state_laws.proofs.Receivers.{event_keeps, receivers_well, state_well, well_with}
use Rattle.state_laws.proofs.states.states_stay_well_formed.Goals as goal

pub returns-clause-start : goal.returns-clause-start
returns-clause-start c = well_at_first

pub returns-clause-message : goal.returns-clause-message
returns-clause-message c =
    let e = c.parameter_laws.ensures in
    well_after (laws e.given e.others e.form e.equal)

pub returns-clause-event : goal.returns-clause-event
returns-clause-event c =
    let e = c.parameter_laws.ensures in
    event_keeps (laws e.given e.others e.form e.equal)

pub returns-clause-receivers : goal.returns-clause-receivers
returns-clause-receivers c =
    let e = c.parameter_laws.ensures in
    receivers_well (laws e.given e.others e.form e.equal)

pub returns-clause-channels : goal.returns-clause-channels
returns-clause-channels c = state_well

pub returns-clause-given : goal.returns-clause-given
returns-clause-given c =
    let e = c.parameter_laws.ensures in
    well_with (laws e.given e.others e.form e.equal)
