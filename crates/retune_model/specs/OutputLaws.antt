-- Laws of what the routes write, port by port.
use Rattle.std.specs.Prelude.{◌≡◌, ◌≤◌, ◌<◌, ◌^◌, ◌++◌, ℕ, Bool, true, false, List, [], ◌∷◌, length}
use Rattle.std.specs.List.{AllByRecursion}
use Rattle.mt_base.specs.Midi.{MidiEvent}
use Rattle.midi_model.specs.FileText.{MidiFile}
use Rattle.midi_model.specs.Merged.{merged, IsPlayable}
use Rattle.midi_model.specs.Music.{quiet}
use Rattle.midi_model.specs.Receiver.{after}
use Rattle.retune_model.specs.Table.{Scaling}
use Rattle.retune_model.specs.Options.{Options}
use Rattle.retune_model.specs.Ports.{Numbered, NamesNoOther, of_port, events_on}
use Rattle.retune_model.specs.PlaysTheSame.{plain_device, PlayTheSame, HasSameShape, PlaysTheSame}
use Rattle.retune_model.specs.Faults.{Targets}
use Rattle.retune_model.specs.PortOutput.{IsBeside, by_history, ports_by_history}
use Rattle.retune_model.specs.Blocks.{Block, output, sources, Fits, all_events}
use Rattle.retune_model.specs.Routes.{Setup, Live, IsHarmless, IsHarmlessLive, nothing_told, dump_output, live_output}
use Rattle.retune_model.specs.Plain.{ArePlain, IsTuned, IsTold, Reads, has_begun, told_after}
use Rattle.retune_model.specs.Dump.{dump_setup, live_setup, dumped, told_live}
use Rattle.retune_model.specs.Dumpable.{IsDumpable, IsLivable}

-- ---- blocks whose groups aren't heard play the source's music

-- after each block
abbrev pub BlocksPlayTheirSources : Type 0
BlocksPlayTheirSources = (xs ys : List Block) → Fits quiet (xs ++ ys) → (after (output xs)).music ≡ (after (sources xs)).music

-- and within a block right after its source event
abbrev pub BlocksPlayWithin : Type 0
BlocksPlayWithin = (xs : List Block) (b : Block) (ys : List Block) → Fits quiet (xs ++ b ∷ ys) →
    (after (output xs ++ (all_events b.before ++ b.event ∷ []))).music ≡ (after (sources xs ++ b.event ∷ [])).music

-- ---- one port on dump and live

-- the source's music is kept
abbrev pub DumpedMusicIsKept : Type 0
DumpedMusicIsKept = (s : Setup) (es : List MidiEvent) → IsHarmless s → (after (dump_output s es)).music ≡ (after es).music

-- once a channel message came, the tuning is the dumped one
abbrev pub DumpTunes : Type 0
DumpTunes = (s : Setup) (part : ℕ → Bool) (es : List MidiEvent) → IsHarmless s → AllByRecursion (λ c. part c ≡ true) s.channels →
    ArePlain part quiet es → has_begun false es ≡ true → IsTuned s (after (dump_output s es)).tuning

abbrev pub ToldMusicIsKept : Type 0
ToldMusicIsKept = (l : Live) (es : List MidiEvent) → IsHarmlessLive l → (after (live_output l es)).music ≡ (after es).music

-- each key that was told has its value
abbrev pub LiveTunes : Type 0
LiveTunes = (l : Live) (value : ℕ → ℕ) (es : List MidiEvent) → IsHarmlessLive l → Reads l value → AllByRecursion (λ c. l.is_retuned c ≡ true) l.setup.channels →
    ArePlain l.is_retuned quiet es → IsTold l value (told_after l nothing_told es) (after (live_output l es)).tuning

-- ---- what the dump and live routes write can be written as a file like its source: it is valid, in order, and each track ends once

abbrev pub DumpedIsPlayable : Type 0
DumpedIsPlayable = (tracks : ℕ) (o : Options) (bytes : List ℕ) (es : List MidiEvent) →
    length bytes < 2 ^ 28 → o.program ≤ 127 → IsPlayable tracks es → IsPlayable tracks (dumped o bytes es)

abbrev pub ToldIsPlayable : Type 0
ToldIsPlayable = (tracks : ℕ) (o : Options) (change : ℕ → List ℕ) (es : List MidiEvent) →
    ((k : ℕ) → k < 128 → length (change k) < 2 ^ 28) → o.program ≤ 127 → IsPlayable tracks es → IsPlayable tracks (told_live o change es)

-- ---- each port of an output is what its rule makes of the port's events

-- where each block stands beside its event, whatever the rule is
abbrev pub StandBeside : (ℕ → List Numbered → Numbered → List MidiEvent) → Type 0
StandBeside block = (z : ℕ) (before : List Numbered) (n : Numbered) → IsBeside n.event (block z before n)

abbrev pub PortsAreByTheirRules : Type 0
PortsAreByTheirRules = (block : ℕ → List Numbered → Numbered → List MidiEvent) → StandBeside block → (es : List MidiEvent) (z : ℕ) →
    events_on z (ports_by_history block es) ≡ by_history (block z) (of_port z es)

-- on dump and live, the output for the port's events alone
abbrev pub DumpedPorts : Type 0
DumpedPorts = (o : Options) (bytes : List ℕ) (es : List MidiEvent) (z : ℕ) → events_on z (dumped o bytes es) ≡ dump_output (dump_setup o bytes (events_on z es)) (events_on z es)

abbrev pub ToldPorts : Type 0
ToldPorts = (o : Options) (change : ℕ → List ℕ) (es : List MidiEvent) (z : ℕ) → events_on z (told_live o change es) ≡ live_output (live_setup o change (events_on z es)) (events_on z es)

-- and where only the first port is named, the whole output is the first port's
abbrev pub DumpedOnePort : Type 0
DumpedOnePort = (o : Options) (bytes : List ℕ) (es : List MidiEvent) → AllByRecursion NamesNoOther es → dumped o bytes es ≡ dump_output (dump_setup o bytes es) es

abbrev pub ToldOnePort : Type 0
ToldOnePort = (o : Options) (change : ℕ → List ℕ) (es : List MidiEvent) → AllByRecursion NamesNoOther es → told_live o change es ≡ live_output (live_setup o change es) es

-- ---- dump and live play the same

-- what is written for a source without a fault and the dump of its table's targets
abbrev pub DumpPlaysTheSame : Type 0
DumpPlaysTheSame = (scaling : Scaling) (o : Options) (table : Targets) (bytes : List ℕ) (es : List MidiEvent) →
    IsDumpable scaling o table bytes es → PlayTheSame scaling o table (plain_device o) es (dumped o bytes es)

abbrev pub DumpedFilePlaysTheSame : Type 0
DumpedFilePlaysTheSame = (scaling : Scaling) (o : Options) (table : Targets) (bytes : List ℕ) (source out : MidiFile) →
    HasSameShape source out → merged out ≡ dumped o bytes (merged source) → IsDumpable scaling o table bytes (merged source) → PlaysTheSame scaling o table source out

-- the same with the changes of its keys
abbrev pub LivePlaysTheSame : Type 0
LivePlaysTheSame = (scaling : Scaling) (o : Options) (table : Targets) (change : ℕ → List ℕ) (es : List MidiEvent) →
    IsLivable scaling o table change es → PlayTheSame scaling o table (plain_device o) es (told_live o change es)

abbrev pub ToldFilePlaysTheSame : Type 0
ToldFilePlaysTheSame = (scaling : Scaling) (o : Options) (table : Targets) (change : ℕ → List ℕ) (source out : MidiFile) →
    HasSameShape source out → merged out ≡ told_live o change (merged source) → IsLivable scaling o table change (merged source) → PlaysTheSame scaling o table source out
