use Rattle.std.proofs.Common.{◌∙◌, ap, sym, rules}
use Rattle.receiver.specs.Turns.{strikes_by}
use Rattle.receiver.proofs.Bits.{has_one}
use Rattle.receiver.proofs.Striking.{strikes_here}
use Rattle.receiver.proofs.strokes.key_struck.Goals as goal

pub returns-then-number-channel : goal.returns-then-number-channel
returns-then-number-channel c = λ k below.
    let m = c.in-NoteOn in
    has_one m.key k (search rules)
    ∙ sym (ap (λ x. strikes_by x c.args.channel k) m.is
    ∙ strikes_here m.on m.key m.velocity c.args.channel k c.if-velocity-gt0.true (sym c.number.ensures.value ∙ c.if-number-channel.true))
