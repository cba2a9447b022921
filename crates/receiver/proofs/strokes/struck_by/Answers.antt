use Rattle.std.proofs.Common.{◌∙◌, ap, sym, inl, inr}
use Rattle.mt_base.specs.Midi.{view_what}
use Rattle.midi_model.specs.Sysex.{doing}
use Rattle.receiver.specs.Turns.{strikes}
use Rattle.receiver.proofs.Bits.{has_none}
use Rattle.receiver.proofs.Striking.{strikes_none}
use Rattle.receiver.proofs.strokes.struck_by.Goals as goal

pub returns-in-Sysex : goal.returns-in-Sysex
returns-in-Sysex c = λ k below.
    has_none k ∙ elim c.in-Sysex.is [
      | inl s ↦ sym (ap (λ w. strikes (doing (view_what w)) c.args.channel k) s.2 ∙ strikes_none s.0 s.1.now c.args.channel k)
      | inr s ↦ sym (ap (λ w. strikes (doing (view_what w)) c.args.channel k) s.2)
    ]
