use Rattle.std.proofs.Common.{◌≡◌, ◌∙◌, sym, true, false}
use Rattle.mt_base.specs.Midi.{view_what}
use Rattle.midi_model.specs.Sysex.{doing}
use Rattle.receiver.proofs.Reaching.{silent_tells}
use Rattle.receiver.proofs.Stepping.{silent_follows}
use Rattle.receiver.proofs.player.Player.step_all.Goals as goal

pub returns-then-is_silent-clause-follows : goal.returns-then-is_silent-clause-follows
returns-then-is_silent-clause-follows c =
    silent_follows c.args.self.now c.args.tick (doing (view_what c.args.what.now)) (sym c.is_silent.ensures ∙ c.if-is_silent.true)

pub returns-then-is_silent-clause-tells : goal.returns-then-is_silent-clause-tells
returns-then-is_silent-clause-tells c =
    silent_tells c.args.self.now (doing (view_what c.args.what.now)) c.args.ends.now (sym c.is_silent.ensures ∙ c.if-is_silent.true) c.requires.clear

pub returns-clause-silent : goal.returns-clause-silent
returns-clause-silent c e = absurd (let both : true ≡ false = sym e ∙ (sym c.is_silent.ensures ∙ c.if-is_silent.false) in cc)
