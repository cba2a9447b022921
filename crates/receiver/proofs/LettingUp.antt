-- A key that goes up, by what is kept of its note.
use Rattle.std.proofs.Common.{◌≡◌, ℕ, Bool, true, false, if◌then◌else◌, Some, None, refl}
use Rattle.std.specs.Option.{option_map}
use Rattle.receiver.specs.declared.note.Struck.{Struck}
use Rattle.receiver.specs.Notes.{made_note, let_up}

pub down_goes_up : (s : Struck) (t v : ℕ) (sounds captured : Bool)
    → (if sounds then Some (made_note (record s { release = (t, v) }) false captured) else None) ≡ option_map (let_up t v) (if sounds then Some (made_note s true captured) else None)
down_goes_up s t v false captured = refl
down_goes_up s t v true captured = refl

pub up_stays : (s : Struck) (t v : ℕ) (sounds captured : Bool)
    → (if sounds then Some (made_note s false captured) else None) ≡ option_map (let_up t v) (if sounds then Some (made_note s false captured) else None)
up_stays s t v false captured = refl
up_stays s t v true captured = refl
