-- What is written: the parts of an event and of a file.
use Rattle.std.specs.Prelude.{ℕ, List, []}
use Rattle.midi_model.specs.FileText.{MidiFile}
use Rattle.mt_base.specs.Midi.{MidiWhat, Says, SysexOf, MetaOf, Timed, view_what}
use Rattle.mt_base.specs.declared.event.What.{What}

-- what follows the length of a system exclusive or meta event
abbrev pub content_of : MidiWhat → List ℕ
content_of (Says m) = []
content_of (SysexOf lead content) = content
content_of (MetaOf kind content) = content

-- an event at a tick
abbrev pub timed : ℕ → What → Timed
timed tick what = record { tick = tick; what = view_what what }

-- a file of these tracks
abbrev pub file_of : ℕ → ℕ → List (List Timed) → MidiFile
file_of format division tracks = record { format = format; division = division; tracks = tracks }
