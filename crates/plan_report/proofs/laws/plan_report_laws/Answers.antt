use Rattle.plan_report.proofs.Reporting.{plans_are_reported}
use Rattle.plan_report.proofs.laws.plan_report_laws.Goals as goal

pub returns : goal.returns
returns c = record { reported = plans_are_reported }
