use Rattle.std.proofs.Common.{◌≡◌, Bool, true, false, not, ◌&&◌, if◌then◌else◌, Some, None, rules, get_or, refl}
use Rattle.receiver.specs.declared.note.Note.{Note}
use Rattle.receiver.specs.Notes.{has, made_note, unstruck}
use Rattle.receiver.proofs.Bits.{has_without}
use Rattle.receiver.proofs.keys.Keys.end.Goals as goal

by_tests : (n : Note) (sounds ends : Bool) → (if sounds && not ends then Some n else None) ≡ (if ends then None else (if sounds then Some n else None))
by_tests n false false = refl
by_tests n false true = refl
by_tests n true false = refl
by_tests n true true = refl

pub returns : goal.returns
returns c = λ k below.
    let s = c.args.self.now in
    rw (has_without s.sounding c.args.which k (search rules) below)
    (by_tests (made_note (get_or s.struck k unstruck) (has s.down k) (has s.captured k)) (has s.sounding k) (has c.args.which k))
