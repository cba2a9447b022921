use Rattle.std.proofs.Common.{◌≡◌, ◌++◌, ◌∙◌, true, false, List, take, sym, ap, arith}
use Rattle.std.proofs.lemmas.Result.{on_ok_weaker}
use Rattle.mt_base.specs.declared.event.Msg.{Msg}
use Rattle.mt_base.specs.declared.event.Msg.TheVariants.{NoteOn, NoteOff}
use Rattle.mt_base.specs.Midi.{channel_of}
use Rattle.retune_model.specs.Ports.{of_port}
use Rattle.channel_model.specs.BendOutput.{note_released, pressed_note}
use Rattle.bend_laws.specs.Positions.{both_at}
use Rattle.lifetimes.specs.Stands.{asked, table_in}
use Rattle.route_bend.specs.Standing.{runs_by, caused, releases, is_note}
use Rattle.route_bend.specs.Preparing.{off_of}
use Rattle.route_bend.specs.declared.port.Off.{Off}
use Rattle.route_bend.proofs.Along.{released_ready, struck_ready, plain_ready}
use Rattle.route_bend.proofs.Prepared.{on_holds, no_note}
use Rattle.route_bend.proofs.port.prepare_port.Goals as goal

pub returns-then-velocity-gt0 : goal.returns-then-velocity-gt0
returns-then-velocity-gt0 g c = λ allowed es plan k e at says stands kept.
    let o = asked c.args.parts.now in
    let table = g.T.Aims.table (table_in c.args.parts.now) in
    let s = c.args.channels.now in
    let m = c.args.message.now in
    let part = c.in-NoteOn.channel in
    let is : m ≡ NoteOn part c.in-NoteOn.key c.in-NoteOn.velocity = c.in-NoteOn.is in
    struck_ready c.turning.ensures.turn c.turning.ensures.seen o allowed table es plan k e s.port at s c.leave.new.self kept part
    (c.leave.ensures (take k es) stands) m (ap channel_of is)
    (ap releases is ∙ on_holds part c.in-NoteOn.key c.in-NoteOn.velocity c.if-velocity-gt0.true)
    (ap is_note is) c.args.out.now.messages.items c.requires.empty

pub returns-else-velocity-gt0 : goal.returns-else-velocity-gt0
returns-else-velocity-gt0 g c = λ allowed es plan k e at says stands kept.
    let o = asked c.args.parts.now in
    let table = g.T.Aims.table (table_in c.args.parts.now) in
    let s = c.args.channels.now in
    let m = c.args.message.now in
    let runs = runs_by o allowed table es plan s.port in
    let ns = of_port s.port es in
    let part = c.in-NoteOn.channel in
    let key = c.in-NoteOn.key in
    let off : Off = record { velocity = c.in-NoteOn.velocity; is_on = true } in
    let low = c.if-velocity-gt0.false in
    let none : c.in-NoteOn.velocity ≡ 0 = omega (arith, low) in
    let is : m ≡ NoteOn part key 0 = c.in-NoteOn.is ∙ ap (λ n. NoteOn part key n) none in
    let sent = note_released s.port o table (runs.channel k) (off_of off) part (pressed_note part key (both_at o table runs ns k).source.notes) in
    on_ok_weaker c.release.result (λ r. released_ready c.turning.ensures.turn c.turning.ensures.seen o allowed table es plan k e s.port
    at s kept m (ap releases is) (ap is_note is) c.release.new.out.messages.items
    (r ∙ ap (λ (l : List Msg). l ++ sent) c.requires.empty ∙ sym (ap (caused o table runs ns k e) is)))
    (c.release.ensures allowed es plan k e at stands kept)

pub returns-in-NoteOff : goal.returns-in-NoteOff
returns-in-NoteOff g c = λ allowed es plan k e at says stands kept.
    let o = asked c.args.parts.now in
    let table = g.T.Aims.table (table_in c.args.parts.now) in
    let s = c.args.channels.now in
    let m = c.args.message.now in
    let runs = runs_by o allowed table es plan s.port in
    let ns = of_port s.port es in
    let part = c.in-NoteOff.channel in
    let key = c.in-NoteOff.key in
    let off : Off = record { velocity = c.in-NoteOff.velocity; is_on = false } in
    let is : m ≡ NoteOff part key c.in-NoteOff.velocity = c.in-NoteOff.is in
    let sent = note_released s.port o table (runs.channel k) (off_of off) part (pressed_note part key (both_at o table runs ns k).source.notes) in
    on_ok_weaker c.release-in-NoteOff.result (λ r. released_ready c.turning.ensures.turn c.turning.ensures.seen o allowed table es plan k e s.port
    at s kept m (ap releases is) (ap is_note is) c.release-in-NoteOff.new.out.messages.items
    (r ∙ ap (λ (l : List Msg). l ++ sent) c.requires.empty ∙ sym (ap (caused o table runs ns k e) is)))
    (c.release-in-NoteOff.ensures allowed es plan k e at stands kept)

pub returns-in_default : goal.returns-in_default
returns-in_default g c = λ allowed es plan k e at says stands kept.
    let o = asked c.args.parts.now in
    let table = g.T.Aims.table (table_in c.args.parts.now) in
    let s = c.args.channels.now in
    let m = c.args.message.now in
    let x = c.leave-in_default.new.self in
    plain_ready c.turning.ensures.turn c.turning.ensures.seen o allowed table es plan k e s.port at s x kept c.channel-part.result
    (c.leave-in_default.ensures (take k es) stands) c.renew.new.self (c.renew.ensures (take k es) stands) m (sym c.channel-part.ensures)
    (no_note m c.in_default.not-NoteOn c.in_default.not-NoteOff) c.args.out.now.messages.items c.requires.empty
