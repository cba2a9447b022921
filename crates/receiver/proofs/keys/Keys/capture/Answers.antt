use Rattle.std.proofs.Common.{◌≡◌, Bool, true, false, ◌||◌, if◌then◌else◌, Some, None, get_or, refl}
use Rattle.std.specs.Option.{option_map}
use Rattle.receiver.specs.declared.note.Struck.{Struck}
use Rattle.receiver.specs.Notes.{has, made_note, unstruck, caught}
use Rattle.receiver.proofs.Bits.{has_or}
use Rattle.receiver.proofs.keys.Keys.capture.Goals as goal

by_tests : (s : Struck) (sounds down captured : Bool)
    → (if sounds then Some (made_note s down (captured || down)) else None) ≡ option_map caught (if sounds then Some (made_note s down captured) else None)
by_tests s false down captured = refl
by_tests s true false false = refl
by_tests s true false true = refl
by_tests s true true false = refl
by_tests s true true true = refl

pub returns : goal.returns
returns c = λ k below.
    let s = c.args.self.now in
    rw (has_or s.captured s.down k) (by_tests (get_or s.struck k unstruck) (has s.sounding k) (has s.down k) (has s.captured k))
