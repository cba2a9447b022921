use Rattle.std.proofs.Common.{◌≡◌, Bool, true, false, not, ◌&&◌, if◌then◌else◌, Some, None, rules, get_or, refl, bit_and}
use Rattle.std.specs.Int.{bit_not, w128}
use Rattle.receiver.specs.declared.note.Struck.{Struck}
use Rattle.receiver.specs.Notes.{has, made_note, unstruck, is_loose}
use Rattle.receiver.proofs.Bits.{has_without}
use Rattle.receiver.proofs.keys.Keys.loose.Goals as goal

by_tests : (s : Struck) (sounds down captured : Bool) → ((sounds && not down) && not captured) ≡ is_loose (if sounds then Some (made_note s down captured) else None)
by_tests s false down captured = refl
by_tests s true false captured = refl
by_tests s true true captured = refl

pub returns : goal.returns
returns c = λ k below.
    let s = c.args.self.now in
    rw (has_without (bit_and s.sounding (bit_not w128 s.down)) s.captured k (search rules) below, has_without s.sounding s.down k (search rules) below)
    (by_tests (get_or s.struck k unstruck) (has s.sounding k) (has s.down k) (has s.captured k))
