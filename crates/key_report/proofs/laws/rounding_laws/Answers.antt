use Rattle.key_report.proofs.Outward.{rounds_down, rounds_up}
use Rattle.key_report.proofs.laws.rounding_laws.Goals as goal

pub returns-clause-down : goal.returns-clause-down
returns-clause-down c = rounds_down

pub returns-clause-up : goal.returns-clause-up
returns-clause-up c = rounds_up
