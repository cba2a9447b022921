-- Laws of the music: what holds after each event, and what becomes of its notes.
use Rattle.std.specs.Prelude.{◌≡◌, ℕ, suc, List, [], ◌∷◌, ◌++◌, length, map, Option, Some, None}
use Rattle.mt_base.specs.Midi.{MidiEvent}
use Rattle.mt_base.specs.declared.event.Msg.TheVariants.{NoteOn}
use Rattle.midi_model.specs.Sysex.{Doing, Plays}
use Rattle.midi_model.specs.Notes.{Note, Fades}
use Rattle.midi_model.specs.Music.{Music, begun, settle_note, advance, step}

-- nothing is left to settle, at whatever tick, and there are sixteen channels
pub record IsSettled (m : Music) : Type 0 where
  pub notes : (t : ℕ) → map (settle_note m.channels m.zones t) m.notes ≡ m.notes
  pub channels : length m.channels ≡ 16

-- where that is so, it is so after any event
abbrev pub EventsSettle : Type 0
EventsSettle = (m : Music) (e : MidiEvent) → IsSettled m → IsSettled (step m e)

-- the second list has the notes of the first, in their order, each of which has at most faded
abbrev pub AllFade : List Note → List Note → Type 0
AllFade [] [] = Unit {0}
AllFade (n ∷ ns) (x ∷ xs) = Fades n x × AllFade ns xs
AllFade _ _ = ⊥

-- the note that an event begins, where it begins one
abbrev pub begun_by : Music → ℕ → Doing → List Note
begun_by m t (Plays (NoteOn c k (suc v))) = begun m t c k (suc v) ∷ []
begun_by m t _ = []

-- after an event there are the notes from before and, behind them, the one that it begins, each of which has at most faded
abbrev pub NotesFade : Type 0
NotesFade = (m : Music) (t : ℕ) (d : Doing) → AllFade (m.notes ++ begun_by m t d) (advance t d m).notes

-- an end stays; where there was none, there is none, or one at this tick
abbrev pub EndsBy : ℕ → Option ℕ → Option ℕ → Type 0
EndsBy t (Some e) now = now ≡ Some e
EndsBy t None None = Unit {0}
EndsBy t None (Some e) = e ≡ t

-- what an event at tick t leaves of a note
pub record Ages (t : ℕ) (before now : Note) : Type 0 where
  pub channel : now.channel ≡ before.channel
  pub key : now.key ≡ before.key
  pub onset : now.onset ≡ before.onset
  pub ended : EndsBy t before.ended now.ended

-- the notes from before have aged, and behind them stand those that begin
abbrev pub Grows : ℕ → List Note → List Note → List Note → Type 0
Grows t begun [] xs = xs ≡ begun
Grows t begun (n ∷ ns) [] = ⊥
Grows t begun (n ∷ ns) (x ∷ xs) = Ages t n x × Grows t begun ns xs

-- after an event there are the notes from before, aged, and behind them the one that it begins, as it begins
abbrev pub NotesAge : Type 0
NotesAge = (m : Music) (t : ℕ) (d : Doing) → Grows t (begun_by m t d) m.notes (advance t d m).notes
