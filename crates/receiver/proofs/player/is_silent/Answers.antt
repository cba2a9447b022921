use Rattle.std.proofs.Common.{◌∙◌, ap, sym, not}
use Rattle.midi_model.specs.Sysex.{is_reset, tuning_of}
use Rattle.receiver.proofs.Stepping.{silent_reset}
use Rattle.receiver.proofs.player.is_silent.Goals as goal

pub returns-else-lead : goal.returns-else-lead
returns-else-lead c =
    let bytes = c.in-Sysex.bytes.now in
    rw (c.in-Sysex.is, c.if-lead.false) (ap not c.is_reset.ensures ∙ sym (silent_reset (tuning_of bytes) (is_reset bytes)))
