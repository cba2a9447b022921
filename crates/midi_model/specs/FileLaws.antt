-- Laws of what bytes spell, and of what is read of them from left to right. They hold of every list of numbers.
use Rattle.std.specs.Prelude.{◌≡◌, ◌<◌, ◌≤◌, ◌^◌, ◌++◌, ◌⊎◌, ℕ, ◌+◌, List, length, take, Ok, Err}
use Rattle.mt_base.specs.Midi.{Timed}
use Rattle.midi_model.specs.declared.fault.SmfKind.{SmfKind}
use Rattle.midi_model.specs.declared.fault.SmfKind.TheVariants.{MissingTrack}
use Rattle.midi_model.specs.Faults.{AreEvents, TrackFault, FirstFault, IsChunkPlace, CutFault}
use Rattle.midi_model.specs.FileText.{MidiFile, file_at}
use Rattle.midi_model.specs.Merged.{merged, AreTracksOf, IsPlayable}
use Rattle.midi_model.specs.Spelling.{Spells}

-- bytes spell at most one file
abbrev pub OneFile : Type 0
OneFile = (bytes : List ℕ) (a b : MidiFile) → Spells bytes a → Spells bytes b → a ≡ b

-- what is read is spelt
abbrev pub ReadIsSpelt : Type 0
ReadIsSpelt = (bytes : List ℕ) (file : MidiFile) → file_at bytes ≡ Ok file → Spells bytes file

-- what is spelt is read
abbrev pub SpeltIsRead : Type 0
SpeltIsRead = (bytes : List ℕ) (file : MidiFile) → Spells bytes file → file_at bytes ≡ Ok file

-- the fault that is read is the first
abbrev pub ReadFaultIsFirst : Type 0
ReadFaultIsFirst = (bytes : List ℕ) (offset : ℕ) (kind : SmfKind) → file_at bytes ≡ Err (offset, kind) → FirstFault bytes offset kind

-- the first fault is read
abbrev pub FirstFaultIsRead : Type 0
FirstFaultIsRead = (bytes : List ℕ) (offset : ℕ) (kind : SmfKind) → FirstFault bytes offset kind → file_at bytes ≡ Err (offset, kind)

-- the offset of a fault is how many bytes stand before it
abbrev pub FaultHasPlace : Type 0
FaultHasPlace = (bytes : List ℕ) (offset : ℕ) (kind : SmfKind) (f : FirstFault bytes offset kind)
    → (front : List ℕ) × (bytes ≡ front ++ f.back) × (length front ≡ offset)

-- no prefix of whole events of a track is longer than the one before its fault
abbrev pub NoLongerPrefix : Type 0
NoLongerPrefix = (content back : List ℕ) (kind : SmfKind) (t : TrackFault 0 0 content back kind)
    (front rest : List ℕ) (events : List Timed) (running tick : ℕ) → AreEvents 0 0 front events running tick → content ≡ front ++ rest → length front ≤ length t.front

-- bytes have at most one first fault
abbrev pub OneFault : Type 0
OneFault = (bytes : List ℕ) (at : ℕ) (kind : SmfKind) (at2 : ℕ) (kind2 : SmfKind) → FirstFault bytes at kind → FirstFault bytes at2 kind2 → (at ≡ at2) × (kind ≡ kind2)

-- bytes spell a file or have a first fault
abbrev pub FileOrFault : Type 0
FileOrFault = (bytes : List ℕ) → ((file : MidiFile) × Spells bytes file) ⊎ ((offset : ℕ) × (kind : SmfKind) × FirstFault bytes offset kind)

-- and never both
abbrev pub NeverBoth : Type 0
NeverBoth = (bytes : List ℕ) (file : MidiFile) (offset : ℕ) (kind : SmfKind) → Spells bytes file → FirstFault bytes offset kind → ⊥

-- exactly one of: a file, and then no fault; or one fault at one offset, and then no file
abbrev pub FileOrOneFault : Type 0
FileOrOneFault = (bytes : List ℕ) →
    ((file : MidiFile) × Spells bytes file × ((other : MidiFile) → Spells bytes other → other ≡ file) × ((offset : ℕ) (kind : SmfKind) → FirstFault bytes offset kind → ⊥))
    ⊎ ((offset : ℕ) × (kind : SmfKind) × FirstFault bytes offset kind
    × ((at : ℕ) (other : SmfKind) → FirstFault bytes at other → (at ≡ offset) × (other ≡ kind)) × ((file : MidiFile) → Spells bytes file → ⊥))

-- where fewer than eight bytes are left for a chunk, a chunk should begin
abbrev pub MissingHasPlace : Type 0
MissingHasPlace = (bytes : List ℕ) (offset : ℕ) → FirstFault bytes offset MissingTrack → IsChunkPlace bytes offset × (length bytes < offset + 8)

-- a prefix of a file that ends before its last track chunk does spells no file, and has a first fault by its length
abbrev pub CutIsFaulty : Type 0
CutIsFaulty = (bytes : List ℕ) (file : MidiFile) (is : Spells bytes file) (n : ℕ) → n < length is.header + length is.tracks
    → (offset : ℕ) × (kind : SmfKind) × FirstFault (take n bytes) offset kind × CutFault (take n bytes) n offset kind
    × ((other : MidiFile) → Spells (take n bytes) other → ⊥)

-- the tracks of a file are tracks that can be played
abbrev pub TracksCanPlay : Type 0
TracksCanPlay = (bytes : List ℕ) (file : MidiFile) → length bytes < 2 ^ 28 → Spells bytes file → AreTracksOf 0 file.tracks

-- merged, they are playable for their number
abbrev pub FileIsPlayable : Type 0
FileIsPlayable = (bytes : List ℕ) (file : MidiFile) → length bytes < 2 ^ 28 → Spells bytes file → IsPlayable (length file.tracks) (merged file)
