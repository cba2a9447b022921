use Rattle.std.proofs.Common.{◌≡◌, ◌∙◌, sym, true, false}
use Rattle.midi_model.specs.Sysex.{is_reset}
use Rattle.receiver.proofs.tunings.Tunings.system.Goals as goal

pub returns-then-is_reset : goal.returns-then-is_reset
returns-then-is_reset c =
    let yes-reset : is_reset c.args.bytes.now ≡ true = sym c.is_reset.ensures ∙ c.if-is_reset.true in
    rw yes-reset (λ p k pl kl. c.clear.ensures p k)

pub returns-in-Some : goal.returns-in-Some
returns-in-Some c =
    let no-reset : is_reset c.args.bytes.now ≡ false = sym c.is_reset.ensures ∙ c.if-is_reset.false in
    rw (no-reset, sym c.in-Some.ensures.read) c.take.ensures
