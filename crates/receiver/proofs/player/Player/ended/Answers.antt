use Rattle.std.proofs.Common.{ℕ, Bool, rules}
use Rattle.mt_base.specs.Midi.{view_what}
use Rattle.midi_model.specs.Sysex.{doing}
use Rattle.receiver.specs.Turns.{strikes}
use Rattle.receiver.proofs.Striking.{ended_more}
use Rattle.receiver.proofs.player.Player.ended.Goals as goal

pub loop-channel-preserved : goal.loop-channel-preserved
loop-channel-preserved c =
    let f : ℕ → ℕ → Bool = λ d k. strikes (doing (view_what c.args.what.now)) d k in
    record {
      length = search rules;
      keys = ended_more c.loop-channel.keys c.args.before c.sounding_keys-now.result c.loop-channel.channel c.struck_by.result f
          (search rules) (search rules) c.struck_by.ensures c.loop-channel.invariant.keys;
    }
