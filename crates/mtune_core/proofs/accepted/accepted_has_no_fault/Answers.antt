use Rattle.mtune_core.proofs.Accepting.{accepted_is_not_refused}
use Rattle.mtune_core.proofs.accepted.accepted_has_no_fault.Goals as goal

pub returns : goal.returns
returns c = accepted_is_not_refused (record {
  one_scale = λ lines. (c.one_answer.ensures lines).one_value;
  no_scale_fault = λ lines. (c.one_answer.ensures lines).never_both;
  one_mapping = λ lines. (c.one_answer-2.ensures lines).one_value;
  no_mapping_fault = λ lines. (c.one_answer-2.ensures lines).never_both;
  one_file = c.file_laws.ensures.one_file;
  playable = c.file_laws.ensures.playable;
  ends = c.ends.ensures.in_order;
  first = c.fault_laws.ensures.some;
  fits = c.refusal_laws.ensures.apart;
  no_file_fault = c.file_laws.ensures.never_both;
})
