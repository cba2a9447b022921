-- The printed texts. Numbers are decimal, and each line ends with a line feed.
use Rattle.std.specs.Prelude.{ℕ, List, [], ◌++◌, codes, decimal}
use Rattle.std.specs.Fmt.{signed_decimal}
use Rattle.midi_model.specs.Kinds.{kind_number}
use Rattle.lifetimes.specs.declared.fault.SourceFault.{SourceFault}
use Rattle.lifetimes.specs.declared.fault.SourceKind.{SourceKind}
use Rattle.lifetimes.specs.declared.fault.SourceKind.TheVariants as source
use Rattle.retune_model.specs.Options.{Route, ByDump, ByLive, ByBend, ByMpe}
use Rattle.scl_text.specs.Kinds as scale
use Rattle.kbm_text.specs.Kinds as map
use Rattle.mtune_files.specs.declared.which.Which.{Which}
use Rattle.mtune_files.specs.declared.which.Which.TheVariants as whiches
use Rattle.plan_report.specs.Texts.{too_many_line, too_many_parts_line}
use Rattle.mtune_core.specs.declared.outcome.Fault.{Fault}
use Rattle.mtune_core.specs.declared.outcome.Fault.TheVariants.{Usage, Load, TooLong, Scl, Kbm, ReferenceUnmapped, TooManyPeriods, Smf, Source, TooManyParts, TooManyChannels, Store, Say, Memory}

abbrev pub which_name : Which → List ℕ
which_name whiches.Scale = codes "scale"
which_name whiches.Map = codes "map"
which_name whiches.Input = codes "input"

-- what a source may not hold, by its number
abbrev pub source_kind_number : SourceKind → ℕ
source_kind_number source.UnmappedKey = 1
source_kind_number source.KeyOutOfDevice = 2
source_kind_number source.Unison = 3
source_kind_number (source.BendTooFar q r) = 4
source_kind_number source.ModeMessage = 5
source_kind_number source.DataStep = 6
source_kind_number source.TuningInSource = 7
source_kind_number source.MpeSource = 8
source_kind_number source.Port = 9
source_kind_number source.TooManyParameters = 10
source_kind_number source.PolyInMpe = 11
source_kind_number source.Restrike = 12

-- the steps of a bend that goes too far, and those of its part's bend
abbrev pub bend_text : SourceKind → List ℕ
bend_text (source.BendTooFar q r) = codes " q " ++ signed_decimal q ++ codes " r " ++ signed_decimal r
bend_text _ = []

abbrev pub source_line : SourceFault → List ℕ
source_line f = codes "mtune: input event " ++ decimal f.position ++ codes " tick " ++ decimal f.tick ++ codes " track " ++ decimal f.track
    ++ codes " kind " ++ decimal (source_kind_number f.kind) ++ bend_text f.kind ++ codes "\n"

abbrev pub fault_line : Fault → List ℕ
fault_line (Usage kind) = codes "mtune: usage " ++ decimal kind ++ codes "\n"
fault_line (Load which) = codes "mtune: cannot load " ++ which_name which ++ codes "\n"
fault_line (TooLong which) = codes "mtune: too long " ++ which_name which ++ codes "\n"
fault_line (Scl line kind) = codes "mtune: scale line " ++ decimal line
    ++ codes " kind " ++ decimal (scale.kind_number kind) ++ codes "\n"
fault_line (Kbm line kind) = codes "mtune: map line " ++ decimal line
    ++ codes " kind " ++ decimal (map.kind_number kind) ++ codes "\n"
fault_line (ReferenceUnmapped key) = codes "mtune: reference key " ++ decimal key ++ codes " is not mapped\n"
fault_line (TooManyPeriods key) = codes "mtune: key " ++ decimal key ++ codes " has more than 1700 ratio terms\n"
fault_line (Smf offset kind) = codes "mtune: input byte " ++ decimal offset
    ++ codes " kind " ++ decimal (kind_number kind) ++ codes "\n"
fault_line (Source f) = source_line f
fault_line (TooManyParts port parts) = too_many_parts_line port parts
fault_line (TooManyChannels t) = too_many_line t
fault_line Store = codes "mtune: cannot store\n"
fault_line Say = []
fault_line Memory = codes "mtune: out of memory\n"

-- ---- lines of the report

abbrev pub route_name : Route → List ℕ
route_name ByDump = codes "dump"
route_name ByLive = codes "live"
route_name ByBend = codes "bend"
route_name ByMpe = codes "mpe"

abbrev pub route_line : Route → List ℕ
route_line route = codes "route " ++ route_name route ++ codes "\n"

-- the number of retuned notes
abbrev pub notes_line : ℕ → List ℕ
notes_line notes = codes "notes " ++ decimal notes ++ codes "\n"
