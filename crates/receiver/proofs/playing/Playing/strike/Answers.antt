use Rattle.receiver.specs.Notes.{note_of}
use Rattle.receiver.proofs.Hearing.{at_key, strike_heard}
use Rattle.receiver.proofs.playing.Playing.strike.Goals as goal

pub returns-clause-heard : goal.returns-clause-heard
returns-clause-heard c = λ channel k below.
    let s = c.args.self.now in
    let ps = s.state.keys.items in
    let qs = c.press.new.self.keys.items in
    strike_heard channel k c.args.key c.args.struck ps qs (note_of c.strike.new.self k) (note_of s.keys k)
    (at_key ps qs c.args.key 0 k c.requires c.press.ensures.length c.press.ensures.keys) (c.strike.ensures k below)
