use Rattle.channel_model.proofs.Refused.{apart, pair_more, none_allowed, one_refusal}
use Rattle.channel_model.proofs.refusals.refusal_laws.Goals as goal

pub returns-clause-apart : goal.returns-clause-apart
returns-clause-apart c o allowed table es r = apart o.route o allowed table es r

pub returns-clause-pairs : goal.returns-clause-pairs
returns-clause-pairs c = pair_more c.fewest_channels.ensures.once

pub returns-clause-none : goal.returns-clause-none
returns-clause-none c = none_allowed c.fewest_channels.ensures.refused

pub returns-clause-one : goal.returns-clause-one
returns-clause-one c o allowed table es r s = one_refusal c.need_laws.ensures.determined o.route o allowed table es r s
