use Rattle.std.proofs.Common.{refl}
use Rattle.mts_msg.proofs.Written.{dump_again, change_again}
use Rattle.mts_msg.proofs.laws.written_is_read.Goals as goal

pub returns-clause-dumps : goal.returns-clause-dumps
returns-clause-dumps c = dump_again

pub returns-clause-changes : goal.returns-clause-changes
returns-clause-changes c = change_again

pub returns-clause-resets : goal.returns-clause-resets
returns-clause-resets c = (λ program values. refl, λ program key value. refl)
