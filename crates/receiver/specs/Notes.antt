-- The notes that sound on the keys of one channel, as the program keeps them.
use Rattle.std.specs.Prelude.{ℕ, Bool, true, false, not, ◌&&◌, nat_eq, if◌then◌else◌, Option, Some, None, is_some, get_or}
use Rattle.std.specs.Int.{bit_at}
use Rattle.receiver.specs.declared.note.Note.{Note}
use Rattle.receiver.specs.declared.note.Struck.{Struck}
use Rattle.receiver.specs.declared.keys.Keys.{Keys}

-- a note as the program tells of it
abbrev pub Told : Type 0
Told = Note

-- what was struck on a key before anything was
abbrev pub unstruck : Struck
unstruck = record { number = 0; onset = 0; velocity = 0; voice = record { bank_high = 0; bank_low = 0; program = 0 }; release = (0, 0) }

-- a note by what was struck, whether its key is down and whether it is captured
abbrev pub made_note : Struck → Bool → Bool → Note
made_note s down captured = record { number = s.number; onset = s.onset; velocity = s.velocity; voice = s.voice; released = if down then None else Some s.release; captured = captured }

-- a note that begins
abbrev pub new_note : Struck → Note
new_note s = made_note s true false

abbrev pub has : ℕ → ℕ → Bool
has mask k = nat_eq (bit_at mask k) 1

-- the note that sounds on a key
abbrev pub note_of : Keys → ℕ → Option Note
note_of s k = if has s.sounding k then Some (made_note (get_or s.struck k unstruck) (has s.down k) (has s.captured k)) else None

-- its key goes up, where it is down
abbrev pub let_up : ℕ → ℕ → Note → Note
let_up t v n = if is_some n.released then n else record n { released = Some (t, v) }

-- the sostenuto pedal takes it, where its key is down
abbrev pub caught : Note → Note
caught n = if is_some n.released then n else record n { captured = true }

abbrev pub freed : Note → Note
freed n = record n { captured = false }

-- whether a note sounds that nothing but the hold pedal can hold
abbrev pub is_loose : Option Note → Bool
is_loose None = false
is_loose (Some n) = is_some n.released && not n.captured
