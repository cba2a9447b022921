use Rattle.retune_model.proofs.DumpPlayable.{dumped_playable}
use Rattle.retune_model.proofs.dump.dump_is_playable.Goals as goal

pub returns : goal.returns
returns c = record { playable = dumped_playable }
