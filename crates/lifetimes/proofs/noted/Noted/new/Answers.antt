use Rattle.std.proofs.Common.{◌∙◌, ap}
use Rattle.std.proofs.lemmas.List.{get_or-replicate}
use Rattle.retune_model.specs.Faults.{is_part}
use Rattle.receiver.specs.Notes.{has}
use Rattle.lifetimes.proofs.NotedParts.{none_noted, never}
use Rattle.lifetimes.proofs.noted.Noted.new.Goals as goal

pub returns : goal.returns
returns c o z low d below = ap (λ m. has m d) (get_or-replicate 256 z 0 0 low) ∙ (none_noted d ∙ never (is_part o d))
