use Rattle.std.proofs.Common.{◌∙◌, ap}
use Rattle.receiver.specs.Notes.{has}
use Rattle.receiver.proofs.Bits.{has_none}
use Rattle.lifetimes.proofs.PartEnding.{none_ends}
use Rattle.lifetimes.proofs.notes.Notes.end_all.Goals as goal

pub returns-else-keys-ne0 : goal.returns-else-keys-ne0
returns-else-keys-ne0 c = none_ends (has c.args.keys) c.args.tick c.args.tail c.args.self.now
    (λ k low. ap (λ m. has m k) c.if-keys-ne0.false ∙ has_none k)
