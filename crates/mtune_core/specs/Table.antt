-- The scale and the mapping with their table, and what goes wrong up to it.
use Rattle.std.specs.Prelude.{ℕ, ◌≡◌, ◌≢◌, ◌⊎◌, List, None}
use Rattle.scala_lines.specs.Lines.{lines_of}
use Rattle.scl_text.specs.declared.entry.Entry.{Entry}
use Rattle.scl_text.specs.Spelling.{ScaleText, ScaleFault}
use Rattle.kbm_text.specs.Map.{KeyMap, a440, standard}
use Rattle.kbm_text.specs.Spelling.{MapText, MapFault}
use Rattle.retune_model.specs.Scale.{above_middle}
use Rattle.retune_model.specs.Table.{Scaling, IsTable, IsOnePerScale, AreFewTerms, one_scale}
use Rattle.retune_model.specs.Faults.{Targets}
use Rattle.key_pitch.specs.Causes.{Refuses}
use Rattle.key_pitch.specs.declared.fault.TuneFault.TheVariants as tune
use Rattle.mtune_files.specs.Counts.{one_load}
use Rattle.mtune_files.specs.Outside.{Outside, after_load}
use Rattle.mtune_files.specs.declared.counts.Counts.{Counts}
use Rattle.mtune_files.specs.declared.which.Which.TheVariants.{Scale, Map}
use Rattle.mtune_core.specs.declared.outcome.Fault.{Fault}
use Rattle.mtune_core.specs.declared.outcome.Fault.TheVariants.{ReferenceUnmapped, TooManyPeriods, Scl, Kbm, Memory}
use Rattle.command_line.specs.Words.{Command, MapChoice, Named, At440, Standard}
use Rattle.mtune_core.specs.Contents.{At, ContentCause}
use Rattle.mtune_core.specs.Limits.{text_limit}

-- ---- what is read

-- at the name stands a text that is a scale of these entries
abbrev pub IsScaleAt : Outside → List ℕ → List Entry → Type 0
IsScaleAt o name entries = At o name text_limit (λ text. ScaleText (lines_of text) entries)

-- it is the mapping that is asked for: where one is named, that of the text at its name
abbrev pub IsMappingAt : Outside → MapChoice → KeyMap → Type 0
IsMappingAt o (Named name) m = At o name text_limit (λ text. MapText (lines_of text) m)
IsMappingAt o At440 m = m ≡ a440
IsMappingAt o Standard m = m ≡ standard

-- The scale and the mapping of a command, of which each key has few enough terms. The mapping doesn't leave its reference key out.
pub record Tuning (o : Outside) (c : Command) : Type 0 where
  pub entries : List Entry
  pub mapping : KeyMap
  pub is_scale : IsScaleAt o c.scale entries
  pub is_mapping : IsMappingAt o c.mapping mapping
  pub mapped : above_middle entries mapping mapping.reference ≢ None
  pub few : AreFewTerms (one_scale entries mapping)

abbrev pub scaling_of : {o : Outside} {c : Command} → Tuning o c → Scaling
scaling_of t = one_scale t.entries t.mapping

-- One table for a whole call: it gives a key the same bounds wherever the same scale is in force.
pub record IsOneTable (scaling : Scaling) (table : Targets) : Type 0 where
  pub is_table : IsTable scaling table
  pub one : IsOnePerScale scaling table

-- a table of the scale and the mapping of a command
abbrev pub TableFrom : Outside → Command → Targets → Type 0
TableFrom o c table = (t : Tuning o c) × IsOneTable (scaling_of t) table

-- the calls, with the load of the mapping where one is named
abbrev pub with_mapping : MapChoice → Counts → Counts
with_mapping (Named name) calls = one_load Map calls
with_mapping At440 calls = calls
with_mapping Standard calls = calls

abbrev pub after_mapping : MapChoice → Outside → Outside
after_mapping choice o = record o { calls = with_mapping choice o.calls }

-- the scale was loaded once, and then the mapping where one is named
abbrev pub after_texts : Command → Outside → Outside
after_texts c o = after_mapping c.mapping (after_load Scale o)

-- ---- what goes wrong

-- the first fault of the text
abbrev pub ScaleCause : List ℕ → Fault → Type 0
ScaleCause text (Scl line kind) = ScaleFault (lines_of text) line kind
ScaleCause text Memory = Unit {0}
ScaleCause text _ = ⊥

abbrev pub MapCause : List ℕ → Fault → Type 0
MapCause text (Kbm line kind) = MapFault (lines_of text) line kind
MapCause text Memory = Unit {0}
MapCause text _ = ⊥

-- only a mapping that is named may fail
abbrev pub MappingCause : MapChoice → Outside → Outside → Fault → Type 0
MappingCause (Named name) before now fault = ContentCause Map name text_limit MapCause before now fault
MappingCause At440 before now fault = ⊥
MappingCause Standard before now fault = ⊥

-- the mapping leaves its reference key out; or it doesn't, and the key is the least one that has more than 1,700 terms
abbrev pub IsTuneFault : List Entry → KeyMap → Fault → Type 0
IsTuneFault scale m (ReferenceUnmapped key) = Refuses scale m (tune.ReferenceUnmapped key)
IsTuneFault scale m (TooManyPeriods key) = Refuses scale m (tune.TooManyPeriods key)
IsTuneFault scale m _ = ⊥

-- The work stopped at the scale; or at the mapping, once the scale was read; or at their table, once both were read.
abbrev pub TableCause : Command → Outside → Outside → Fault → Type 0
TableCause c before now fault = ContentCause Scale c.scale text_limit ScaleCause before now fault
    ⊎ ((entries : List Entry) × IsScaleAt before c.scale entries
    × (MappingCause c.mapping (after_load Scale before) now fault
    ⊎ ((m : KeyMap) × IsMappingAt before c.mapping m × (now ≡ after_texts c before) × IsTuneFault entries m fault)))
