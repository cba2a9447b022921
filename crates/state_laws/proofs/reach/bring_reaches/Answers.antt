use Rattle.state_laws.proofs.Laws.{laws}
use Rattle.state_laws.proofs.Reaching.{reaches, kept_selection, closed_selection, ignored_both}
use Rattle.state_laws.proofs.reach.bring_reaches.Goals as goal

pub returns-clause-wanted : goal.returns-clause-wanted
returns-clause-wanted c =
    let e = c.parameter_laws.ensures in
    reaches (laws e.given e.others e.form e.equal)

pub returns-clause-kept : goal.returns-clause-kept
returns-clause-kept c =
    let e = c.parameter_laws.ensures in
    kept_selection (laws e.given e.others e.form e.equal)

pub returns-clause-closed : goal.returns-clause-closed
returns-clause-closed c =
    let e = c.parameter_laws.ensures in
    closed_selection (laws e.given e.others e.form e.equal)

pub returns-clause-ignored : goal.returns-clause-ignored
returns-clause-ignored c = ignored_both
