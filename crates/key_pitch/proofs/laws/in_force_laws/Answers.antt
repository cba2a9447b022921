use Rattle.key_pitch.proofs.LastBegun.{last_begun, only_last, always_begun}
use Rattle.key_pitch.proofs.Rising.{began_last}
use Rattle.key_pitch.proofs.Stretches.{table_of_stretches, few_of_stretches}
use Rattle.key_pitch.proofs.OnePerScale.{one_per_scale}
use Rattle.key_pitch.proofs.laws.in_force_laws.Goals as goal

pub returns-clause-last : goal.returns-clause-last
returns-clause-last c = last_begun

pub returns-clause-only : goal.returns-clause-only
returns-clause-only c = only_last

pub returns-clause-latest : goal.returns-clause-latest
returns-clause-latest c = began_last

pub returns-clause-always : goal.returns-clause-always
returns-clause-always c = always_begun

pub returns-clause-table : goal.returns-clause-table
returns-clause-table c scales m entries = table_of_stretches m scales entries

pub returns-clause-few : goal.returns-clause-few
returns-clause-few c scales m entries = few_of_stretches m scales entries

pub returns-clause-one_per_scale : goal.returns-clause-one_per_scale
returns-clause-one_per_scale c scales m entries = one_per_scale m scales entries
