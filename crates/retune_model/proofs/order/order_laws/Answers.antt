use Rattle.retune_model.proofs.Ordered.{with_ordered}
use Rattle.retune_model.proofs.SameOrder.{same_list, pass_ordered, has_more, has_pass}
use Rattle.retune_model.proofs.order.order_laws.Goals as goal

pub returns-clause-same : goal.returns-clause-same
returns-clause-same c = same_list

pub returns-clause-more : goal.returns-clause-more
returns-clause-more c = with_ordered

pub returns-clause-pass : goal.returns-clause-pass
returns-clause-pass c = pass_ordered

pub returns-clause-has_more : goal.returns-clause-has_more
returns-clause-has_more c = has_more

pub returns-clause-has_pass : goal.returns-clause-has_pass
returns-clause-has_pass c = has_pass
