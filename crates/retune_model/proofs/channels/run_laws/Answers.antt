use Rattle.retune_model.specs.Pairs.{is_same_pair}
use Rattle.retune_model.proofs.Places.{room, lowest_takes_free, all_used}
use Rattle.retune_model.proofs.Placed.{notes_valid, notes_use}
use Rattle.retune_model.proofs.SamePairs.{same_pairs}
use Rattle.retune_model.proofs.channels.run_laws.Goals as goal

pub returns-clause-lowest_is_free : goal.returns-clause-lowest_is_free
returns-clause-lowest_is_free c = lowest_takes_free is_same_pair same_pairs

pub returns-clause-valid : goal.returns-clause-valid
returns-clause-valid c holds pair notes at last n from row runs = notes_valid is_same_pair holds pair notes at last n from row runs.pairs runs.unbroken runs.one

pub returns-clause-as_many : goal.returns-clause-as_many
returns-clause-as_many c holds pair notes at last n instant from row runs need = notes_use is_same_pair same_pairs holds pair notes at last n instant from row runs.pairs need runs.unbroken runs.one

pub returns-clause-all_used : goal.returns-clause-all_used
returns-clause-all_used c = all_used is_same_pair same_pairs

pub returns-clause-room : goal.returns-clause-room
returns-clause-room c at n row k p new few = let r = room is_same_pair same_pairs at n row k p new few in (r.0, r.1, r.2)
