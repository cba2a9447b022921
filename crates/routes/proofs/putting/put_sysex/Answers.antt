use Rattle.std.proofs.Common.{[]}
use Rattle.mt_base.specs.Midi.{MidiEvent, SysexOf, view}
use Rattle.event_stream.specs.Distributed.{MayPut}
use Rattle.routes.specs.Putting.{put_all}
use Rattle.routes.proofs.Puts.{may_first}
use Rattle.routes.proofs.putting.put_sysex.Goals as goal

pub put-requires : goal.put-requires
put-requires c =
    let at = view c.args.at.now in
    let e : MidiEvent = record { tick = at.tick; track = at.track; what = SysexOf 240 c.args.bytes.now } in
    let may : MayPut c.args.out.now e = may_first c.args.out.now e [] c.requires in
    record { valid = may.valid; exists = may.exists; «open» = may.open_still; order = may.in_order }

pub returns-clause-put : goal.returns-clause-put
unfolding put_all
returns-clause-put c = c.put.ensures.appended
