-- Laws of what the octave route writes for a table that holds throughout.
use Rattle.std.specs.Prelude.{◌≡◌, ◌<◌, ◌≤◌, ◌^◌, ◌+◌, ◌*◌, ℕ, List, length, map, All}
use Rattle.mt_base.specs.Midi.{MidiEvent}
use Rattle.midi_model.specs.FileText.{MidiFile}
use Rattle.midi_model.specs.Merged.{merged, IsPlayable}
use Rattle.midi_model.specs.Spelling.{Spells}
use Rattle.midi_model.specs.SizeLaws.{most_of_track}
use Rattle.midi_model.specs.Writing.{Written, written}
use Rattle.event_stream.specs.Distributed.{events_in, distributed}
use Rattle.retune_model.specs.Table.{Scaling}
use Rattle.retune_model.specs.Options.{Options}
use Rattle.retune_model.specs.Faults.{Targets}
use Rattle.retune_model.specs.PlaysTheSame.{PlayTheSame, HasSameShape, PlaysTheSameOn}
use Rattle.retune_model.specs.Octave.{octave_device}
use Rattle.octave_route.specs.Output.{octaved, IsOctavable}

-- ---- on a receiver of octave tuning it plays the same as the source, on every port

abbrev pub OctavePlaysTheSame : Type 0
OctavePlaysTheSame = (scaling : Scaling) (o : Options) (table : Targets) (used : ℕ) (values : List ℕ) (es : List MidiEvent) →
    IsOctavable scaling o table used values es → PlayTheSame scaling o table octave_device es (octaved o values es)

abbrev pub OctavedFilePlaysTheSame : Type 0
OctavedFilePlaysTheSame = (scaling : Scaling) (o : Options) (table : Targets) (used : ℕ) (values : List ℕ) (source out : MidiFile) →
    HasSameShape source out → merged out ≡ octaved o values (merged source) → IsOctavable scaling o table used values (merged source) →
    PlaysTheSameOn octave_device scaling o table source out

-- ---- it can be written as a file like its source: it is valid, in order, and each track ends once

abbrev pub OctavedIsPlayable : Type 0
OctavedIsPlayable = (tracks : ℕ) (o : Options) (values : List ℕ) (es : List MidiEvent) →
    length values ≡ 12 → IsPlayable tracks es → IsPlayable tracks (octaved o values es)

-- ---- it is short

-- in each track, each source event causes at most 1,600 bytes beside its own
abbrev pub OctavedAddsFewBytes : Type 0
OctavedAddsFewBytes = (o : Options) (values : List ℕ) (es : List MidiEvent) (track : ℕ) → length values ≡ 12 →
    most_of_track (events_in track (octaved o values es)) ≤ most_of_track (events_in track es) + 1600 * length es

-- so each track of what is written for a file that at most 4,194,304 bytes spell fits in its chunk
abbrev pub OctavedTracksAreShort : Type 0
OctavedTracksAreShort = (bytes : List ℕ) (source : MidiFile) (o : Options) (values : List ℕ) → length values ≡ 12 → Spells bytes source
    → length bytes ≤ 4194304 →
    All (λ (text : Written). length text.bytes < 2 ^ 32) (map written (distributed (length source.tracks) (octaved o values (merged source))))
