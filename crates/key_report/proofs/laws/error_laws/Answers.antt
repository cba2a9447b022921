use Rattle.key_report.proofs.Outward.{errors_hold, errors_are_near}
use Rattle.key_report.proofs.laws.error_laws.Goals as goal

pub returns-clause-hold : goal.returns-clause-hold
returns-clause-hold c = errors_hold c.differences.ensures.least c.differences.ensures.most c.exact.ensures.least c.exact.ensures.most
    c.wider.ensures.least c.wider.ensures.most

pub returns-clause-near : goal.returns-clause-near
returns-clause-near c = errors_are_near
