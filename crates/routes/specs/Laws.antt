-- Laws of what the dump and live routes write for a table that holds throughout.
use Rattle.std.specs.Prelude.{◌≡◌, ◌<◌, ◌≤◌, ◌^◌, ◌+◌, ◌*◌, ℕ, List, [], length, map, All}
use Rattle.mt_base.specs.Midi.{MidiEvent}
use Rattle.midi_model.specs.FileText.{MidiFile}
use Rattle.midi_model.specs.Merged.{merged, IsPlayable}
use Rattle.midi_model.specs.Spelling.{Spells}
use Rattle.midi_model.specs.SizeLaws.{most_of_track}
use Rattle.midi_model.specs.Writing.{Written, written}
use Rattle.event_stream.specs.Distributed.{events_in, distributed}
use Rattle.retune_model.specs.Table.{Scaling}
use Rattle.retune_model.specs.Options.{Options}
use Rattle.retune_model.specs.Faults.{Targets}
use Rattle.retune_model.specs.PlaysTheSame.{plain_device, PlayTheSame, HasSameShape, PlaysTheSame}
use Rattle.retune_model.specs.Dump.{tuning_at, told_value, IsDumpOf, AreChangesOf}
use Rattle.routes.specs.Putting.{put_all, AllMayPut}
use Rattle.routes.specs.Routed.{dump_of, change_of, routed, IsRoutable}

-- ---- the bytes

abbrev pub BytesAreDumps : Type 0
BytesAreDumps = (o : Options) (table : Targets) → o.program ≤ 127 → IsDumpOf o.program (tuning_at table) (dump_of o table)

abbrev pub BytesAreChanges : Type 0
BytesAreChanges = (o : Options) (table : Targets) → o.program ≤ 127 → AreChangesOf o.program (told_value table) (change_of o table)

-- ---- what is written plays the same as the source

abbrev pub RoutedPlayTheSame : Type 0
RoutedPlayTheSame = (scaling : Scaling) (o : Options) (table : Targets) (es : List MidiEvent) →
    IsRoutable scaling o table es → PlayTheSame scaling o table (plain_device o) es (routed o table es)

abbrev pub RoutedFilePlaysTheSame : Type 0
RoutedFilePlaysTheSame = (scaling : Scaling) (o : Options) (table : Targets) (source out : MidiFile) →
    HasSameShape source out → merged out ≡ routed o table (merged source) →
    IsRoutable scaling o table (merged source) → PlaysTheSame scaling o table source out

-- ---- it can be written as a file like its source

abbrev pub RoutedIsPlayable : Type 0
RoutedIsPlayable = (tracks : ℕ) (o : Options) (table : Targets) (es : List MidiEvent) →
    o.program ≤ 127 → IsPlayable tracks es → IsPlayable tracks (routed o table es)

-- ---- it is short

-- in each track, each source event causes at most 1,600 bytes beside its own
abbrev pub AddsFewBytes : Type 0
AddsFewBytes = (o : Options) (table : Targets) (es : List MidiEvent) (track : ℕ) →
    most_of_track (events_in track (routed o table es)) ≤ most_of_track (events_in track es) + 1600 * length es

-- so each track of what is written for a file that at most 4,194,304 bytes spell fits in its chunk
abbrev pub TracksAreShort : Type 0
TracksAreShort = (bytes : List ℕ) (source : MidiFile) (o : Options) (table : Targets) → Spells bytes source → length bytes ≤ 4194304 →
    All (λ (text : Written). length text.bytes < 2 ^ 32) (map written (distributed (length source.tracks) (routed o table (merged source))))

-- ---- it can be put into tracks

-- the events of a playable list may be put into new tracks one after the other
abbrev pub PlayableMayBePut : Type 0
PlayableMayBePut = (tracks : ℕ) (es : List MidiEvent) → IsPlayable tracks es → AllMayPut (map written (distributed tracks [])) es

-- the tracks then stand for what is dealt out to them
abbrev pub PutIsDealt : Type 0
PutIsDealt = (tracks : ℕ) (es : List MidiEvent) → IsPlayable tracks es →
    put_all (map written (distributed tracks [])) es ≡ map written (distributed tracks es)
