use Rattle.receiver.specs.Notes.{note_of}
use Rattle.receiver.proofs.Hearing.{at_key, press_heard}
use Rattle.receiver.proofs.playing.Playing.press.Goals as goal

pub returns-then-is_sounding-clause-heard : goal.returns-then-is_sounding-clause-heard
returns-then-is_sounding-clause-heard c = λ channel k below.
    let s = c.args.self.now in
    let ps = s.state.keys.items in
    let qs = c.press.new.self.keys.items in
    press_heard channel k c.args.key c.args.value ps qs (note_of s.keys k) (at_key ps qs c.args.key c.args.value k c.requires.key c.press.ensures.length c.press.ensures.keys)
