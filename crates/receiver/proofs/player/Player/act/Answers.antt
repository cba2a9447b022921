use Rattle.std.proofs.Common.{◌+◌, ◌∙◌, ◌&&◌, ap, sym, Some, cond, nat_eq}
use Rattle.mt_base.specs.Midi.{channel_of}
use Rattle.midi_model.specs.Music.{begun}
use Rattle.receiver.specs.Stands.{slot, set_up_of}
use Rattle.receiver.proofs.Here.{Slot}
use Rattle.receiver.proofs.Struck.{strikes_note, begins_note}
use Rattle.receiver.proofs.player.Player.act.Goals as goal

pub returns-then-velocity-eq0-clause-notes : goal.returns-then-velocity-eq0-clause-notes
returns-then-velocity-eq0-clause-notes c d k dl kl =
    let e = c.channel-channel.ensures ∙ ap channel_of c.in-NoteOn.is in
    rw (c.in-NoteOn.is, c.if-velocity-eq0.true, sym e) (c.release.ensures.notes d k dl kl)

pub returns-else-velocity-eq0-clause-notes : goal.returns-else-velocity-eq0-clause-notes
returns-else-velocity-eq0-clause-notes c d k dl kl =
    let e = c.channel-channel.ensures ∙ ap channel_of c.in-NoteOn.is in
    let m = set_up_of c.args.self.now in
    let n = c.args.self.now.begun + 1 in
    let k' = c.in-NoteOn.key in
    let v = c.in-NoteOn.velocity in
    let o = slot c.args.self.now d k in
    rw c.in-NoteOn.is (c.strike.ensures.notes d k dl kl
    ∙ ap (λ i. cond {A = Slot} (nat_eq d i && nat_eq k k') (Some (n, begun m c.args.tick i k' v)) o) e
    ∙ sym (strikes_note m n c.args.tick c.in-NoteOn.channel k' v d k o c.if-velocity-eq0.false))

pub returns-else-velocity-eq0-clause-begun : goal.returns-else-velocity-eq0-clause-begun
returns-else-velocity-eq0-clause-begun c = rw c.in-NoteOn.is (c.strike.ensures.begun ∙ sym (ap (λ b. cond b (c.args.self.now.begun + 1) c.args.self.now.begun) (begins_note c.in-NoteOn.channel c.in-NoteOn.key c.in-NoteOn.velocity c.if-velocity-eq0.false)))

pub returns-in-NoteOff-clause-notes : goal.returns-in-NoteOff-clause-notes
returns-in-NoteOff-clause-notes c d k dl kl =
    let e = c.channel-channel.ensures ∙ ap channel_of c.in-NoteOff.is in
    rw (c.in-NoteOff.is, sym e) (c.release-in-NoteOff.ensures.notes d k dl kl)

pub returns-in-KeyPressure-clause-notes : goal.returns-in-KeyPressure-clause-notes
returns-in-KeyPressure-clause-notes c d k dl kl =
    let e = c.channel-channel.ensures ∙ ap channel_of c.in-KeyPressure.is in
    rw (c.in-KeyPressure.is, sym e) (c.press.ensures.notes d k dl kl)

pub returns-in-Control-clause-notes : goal.returns-in-Control-clause-notes
returns-in-Control-clause-notes c d k dl kl =
    let e = c.channel-channel.ensures ∙ ap channel_of c.in-Control.is in
    rw (c.in-Control.is, sym e) (c.control.ensures.notes d k dl kl)

pub returns-in-Program-clause-notes : goal.returns-in-Program-clause-notes
returns-in-Program-clause-notes c d k dl kl = rw c.in-Program.is (c.apply.ensures.notes d k dl kl)

pub returns-in-Pressure-clause-notes : goal.returns-in-Pressure-clause-notes
returns-in-Pressure-clause-notes c d k dl kl = rw c.in-Pressure.is (c.apply-in-Pressure.ensures.notes d k dl kl)

pub returns-in-Bend-clause-notes : goal.returns-in-Bend-clause-notes
returns-in-Bend-clause-notes c d k dl kl = rw c.in-Bend.is (c.apply-in-Bend.ensures.notes d k dl kl)
