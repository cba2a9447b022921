-- Where the words and the contents are accepted and no count rose, no fault but want of memory has its cause.
use Rattle.std.proofs.Common.{◌≡◌, ◌<◌, ℕ, List, length, Option, Some, None, refl, ap, sym, subst, ◌∙◌, inl, inr, arith}
use Rattle.mt_base.specs.Laws.{EndsInOrder}
use Rattle.scala_lines.specs.Lines.{lines_of}
use Rattle.scl_text.specs.declared.entry.Entry.{Entry}
use Rattle.scl_text.specs.declared.fault.SclKind.{SclKind}
use Rattle.scl_text.specs.Spelling.{ScaleText, ScaleFault}
use Rattle.kbm_text.specs.declared.fault.KbmKind.{KbmKind}
use Rattle.kbm_text.specs.Map.{KeyMap}
use Rattle.kbm_text.specs.Spelling.{MapText, MapFault}
use Rattle.midi_model.specs.declared.fault.SmfKind.{SmfKind}
use Rattle.midi_model.specs.FileText.{MidiFile}
use Rattle.midi_model.specs.Faults.{FirstFault}
use Rattle.midi_model.specs.FileLaws.{FileIsPlayable}
use Rattle.midi_model.specs.Merged.{merged}
use Rattle.midi_model.specs.Spelling.{Spells}
use Rattle.retune_model.specs.Table.{IsTable, one_scale}
use Rattle.mt_base.specs.Midi.{MidiEvent}
use Rattle.retune_model.specs.Options.{Options}
use Rattle.retune_model.specs.FaultLaws.{FirstIsOfAnEvent}
use Rattle.retune_model.specs.Faults.{Targets}
use Rattle.lifetimes.specs.Views.{fault_of}
use Rattle.mtune_files.specs.Counts.{next, one_load, one_store, one_say, loads_of}
use Rattle.mtune_files.specs.Names.{Held, content_at}
use Rattle.mtune_files.specs.Outside.{Outside, IsContent, HasContent, IsLongerThan, after_load}
use Rattle.mtune_files.specs.declared.counts.Counts.{Counts}
use Rattle.mtune_files.specs.declared.which.Which.{Which}
use Rattle.mtune_files.specs.declared.which.Which.TheVariants.{Scale, Map, Input}
use Rattle.mtune_core.specs.declared.outcome.Fault.{Fault}
use Rattle.mtune_core.specs.declared.outcome.Fault.TheVariants.{Usage, Load, TooLong, Scl, Kbm, ReferenceUnmapped, TooManyPeriods, Smf, Source, TooManyParts, TooManyChannels, Store, Say, Memory}
use Rattle.mtune_core.specs.Accepted.{IsAccepted, NoneRose}
use Rattle.channel_model.specs.Refusals as refusals
use Rattle.channel_model.specs.Refusals.{FitsOrRefused}
use Rattle.channel_plan.specs.Refused.{too_many_of}
use Rattle.command_line.specs.Words.{Command, MapChoice, Named, At440, Standard, Read, Wrong, reading_of}
use Rattle.mtune_core.specs.Asked.{allowed_by}
use Rattle.mtune_core.specs.Call.{CommandCause, StopsAt, IsRefused}
use Rattle.mtune_core.specs.Inputs.{IsInput, SampleCause, InputStops, after_input_of}
use Rattle.mtune_core.specs.Contents.{Content, At, LoadCause}
use Rattle.mtune_core.specs.Limits.{text_limit, input_limit}
use Rattle.mtune_core.specs.Lines.{fault_line}
use Rattle.mtune_core.specs.Retuned.{EventCause, FileCause, InputCause}
use Rattle.mtune_core.specs.Table.{IsScaleAt, IsMappingAt, Tuning, scaling_of, IsTuneFault, ScaleCause, MapCause, MappingCause, TableFrom, TableCause, after_texts}
use Rattle.mtune_core.proofs.Ended.{MaySay, told_faults}
use Rattle.mtune_core.proofs.Reach.{in_reach_has_no_fault}

-- A text has one scale or a fault, one mapping or a fault, and bytes have one file, which may be played, or a fault; the ends of bounds
-- are in order, and the first fault is that of an event.
pub record OneAnswer : Type 0 where
  pub one_scale : (lines : List (List ℕ)) (es fs : List Entry) → ScaleText lines es → ScaleText lines fs → es ≡ fs
  pub no_scale_fault : (lines : List (List ℕ)) (entries : List Entry) (line : ℕ) (kind : SclKind) → ScaleText lines entries
      → ScaleFault lines line kind → ⊥
  pub one_mapping : (lines : List (List ℕ)) (m n : KeyMap) → MapText lines m → MapText lines n → m ≡ n
  pub no_mapping_fault : (lines : List (List ℕ)) (m : KeyMap) (line : ℕ) (kind : KbmKind) → MapText lines m → MapFault lines line kind → ⊥
  pub one_file : (bytes : List ℕ) (a b : MidiFile) → Spells bytes a → Spells bytes b → a ≡ b
  pub playable : FileIsPlayable
  pub ends : EndsInOrder
  pub first : FirstIsOfAnEvent
  pub fits : FitsOrRefused
  pub no_file_fault : (bytes : List ℕ) (file : MidiFile) (offset : ℕ) (kind : SmfKind) → Spells bytes file → FirstFault bytes offset kind → ⊥

-- ---- a name holds one content
same_content : (held : Option Held) (names : Held) (name a b : List ℕ) → held ≡ Some names → IsContent held name a → IsContent held name b → b ≡ a
same_content held names name a b told one other =
    let mine : content_at names name ≡ Some a = subst (λ h. IsContent h name a) told one in
    let yours : content_at names name ≡ Some b = subst (λ h. IsContent h name b) told other in cc

not_longer : (o : Outside) (names : Held) (name : List ℕ) (limit : ℕ) → o.held ≡ Some names → Content o name limit → IsLongerThan o name limit → ⊥
not_longer o names name limit told mine long =
    let other : (content : List ℕ) × (content_at names name ≡ Some content) × (limit < length content) =
    subst (λ h. HasContent h name (λ content. limit < length content)) told long in
    let same : other.0 ≡ mine.bytes =
    same_content (Some names) names name mine.bytes other.0 refl (subst (λ h. IsContent h name mine.bytes) told mine.held) other.1 in
    let over : limit < length mine.bytes = subst (λ c. limit < length c) same other.2 in
    let short = mine.short in
    absurd (omega (arith, over, short))

-- what holds of some content of the name holds of each
its_bytes : (o : Outside) (names : Held) (name : List ℕ) (limit : ℕ) (P : List ℕ → Type 0) → o.held ≡ Some names → (mine : Content o name limit)
    → At o name limit P → P mine.bytes
its_bytes o names name limit P told mine at = subst P (same_content o.held names name mine.bytes at.0.bytes told mine.held at.0.held) at.1

same_scale : OneAnswer → (o : Outside) (names : Held) (name : List ℕ) (es fs : List Entry) → o.held ≡ Some names → IsScaleAt o name es
    → IsScaleAt o name fs → fs ≡ es
same_scale laws o names name es fs told mine other =
    laws.one_scale (lines_of mine.0.bytes) fs es (its_bytes o names name text_limit (λ text. ScaleText (lines_of text) fs) told mine.0 other) mine.1

same_mapping : OneAnswer → (o : Outside) (names : Held) (choice : MapChoice) (m n : KeyMap) → o.held ≡ Some names → IsMappingAt o choice m
    → IsMappingAt o choice n → n ≡ m
same_mapping laws o names (Named name) m n told mine other =
    laws.one_mapping (lines_of mine.0.bytes) n m (its_bytes o names name text_limit (λ text. MapText (lines_of text) n) told mine.0 other) mine.1
same_mapping laws o names At440 m n told mine other = other ∙ sym mine
same_mapping laws o names Standard m n told mine other = other ∙ sym mine

-- ---- counts that rose
loads_stay : (which : Which) (before now : Counts) → MaySay before now → loads_of which now ≡ loads_of which before
loads_stay which before now (inl e) = ap (loads_of which) e
loads_stay which before now (inr e) = ap (loads_of which) e ∙ pick which
  where
    pick : (w : Which) → loads_of w (one_say before) ≡ loads_of w before
    pick Scale = refl
    pick Map = refl
    pick Input = refl

load_rose : (which : Which) (before mid now : Counts) → NoneRose before now → mid ≡ one_load which before → MaySay mid now → ⊥
load_rose which before mid now none e s =
    let is : loads_of which now ≡ next (loads_of which before) = loads_stay which mid now s ∙ ap (loads_of which) e ∙ pick which in
    none.loads which (omega (arith, is))
  where
    pick : (w : Which) → loads_of w (one_load w before) ≡ next (loads_of w before)
    pick Scale = refl
    pick Map = refl
    pick Input = refl

store_rose : (before mid now : Counts) → NoneRose before now → mid ≡ one_store before → MaySay mid now → ⊥
store_rose before mid now none e (inl s) = let is : now.stores ≡ next before.stores =
    ap (λ (c : Counts). c.stores) s ∙ ap (λ (c : Counts). c.stores) e in none.stores (omega (arith, is))
store_rose before mid now none e (inr s) = let is : now.stores ≡ next before.stores =
    ap (λ (c : Counts). c.stores) s ∙ ap (λ (c : Counts). c.stores) e in none.stores (omega (arith, is))

say_rose : (before mid now : Counts) → NoneRose before now → mid ≡ one_say before → now ≡ mid → ⊥
say_rose before mid now none e s = let is : now.says ≡ next before.says =
    ap (λ (c : Counts). c.says) s ∙ ap (λ (c : Counts). c.says) e in none.says (omega (arith, is))

-- ---- a source without a fault, which fits
no_event_cause : OneAnswer → (o : Outside) (words : List (List ℕ)) (a : IsAccepted o words) (table : Targets) → IsTable (scaling_of a.tuning) table
    → (fault : Fault) → FileCause a.command table a.input.bytes fault → fault ≡ Memory
no_event_cause laws o words a table is_table fault cause =
    let same : cause.0 ≡ a.source = laws.one_file a.input.bytes cause.0 a.source cause.1 a.spelled in
    by_fault fault (subst (λ (s : MidiFile). EventCause a.command.options (allowed_by a.command) table (merged s) fault) same cause.2)
  where
    asked : Options
    asked = a.command.options

    es : List MidiEvent
    es = merged a.source

    by_fault : (f : Fault) → EventCause a.command.options (allowed_by a.command) table (merged a.source) f → f ≡ Memory
    by_fault (Source f) h =
        let short = a.input.short in
        absurd (in_reach_has_no_fault laws.ends laws.first (scaling_of a.tuning) asked table es (fault_of f)
        (laws.playable a.input.bytes a.source (omega (arith, short)) a.spelled).valid (λ key onset. refl) a.tuning.few is_table a.in_reach
        (a.no_other_fault table is_table) h)
    by_fault (TooManyParts port parts) h =
        absurd (laws.fits asked (allowed_by a.command) table es (refusals.TooManyParts port parts) (a.fits table is_table) h.1)
    by_fault (TooManyChannels t) h =
        absurd (laws.fits asked (allowed_by a.command) table es (refusals.TooManyChannels (too_many_of t)) (a.fits table is_table) h.1)
    by_fault Memory h = refl
    by_fault f h = absurd h

-- ---- each cause
load_free : (which : Which) (name : List ℕ) (limit : ℕ) (before mid : Outside) (now : Counts) (names : Held) (fault : Fault)
    → before.held ≡ Some names → Content before name limit → NoneRose before.faults now → MaySay mid.faults now
    → LoadCause which name limit before mid fault → fault ≡ Memory
load_free which name limit before mid now names (Load w) told mine none s h =
    absurd (load_rose which before.faults mid.faults now none (ap (λ (o : Outside). o.faults) h.2) s)
load_free which name limit before mid now names (TooLong w) told mine none s h = absurd (not_longer before names name limit told mine h.1)
load_free which name limit before mid now names Memory told mine none s h = refl
load_free which name limit before mid now names fault told mine none s h = absurd h

scale_free : OneAnswer → (text : List ℕ) (entries : List Entry) (fault : Fault) → ScaleText (lines_of text) entries → ScaleCause text fault
    → fault ≡ Memory
scale_free laws text entries (Scl line kind) read h = absurd (laws.no_scale_fault (lines_of text) entries line kind read h)
scale_free laws text entries Memory read h = refl
scale_free laws text entries fault read h = absurd h

map_free : OneAnswer → (text : List ℕ) (m : KeyMap) (fault : Fault) → MapText (lines_of text) m → MapCause text fault → fault ≡ Memory
map_free laws text m (Kbm line kind) read h = absurd (laws.no_mapping_fault (lines_of text) m line kind read h)
map_free laws text m Memory read h = refl
map_free laws text m fault read h = absurd h

-- a mapping that is read, of which the outside before its load is told
mapping_free : OneAnswer → (choice : MapChoice) (o mid : Outside) (now : Counts) (names : Held) (m : KeyMap) (fault : Fault) → o.held ≡ Some names
    → IsMappingAt o choice m
    → NoneRose o.faults now → MaySay mid.faults now → MappingCause choice (after_load Scale o) mid fault → fault ≡ Memory
mapping_free laws (Named name) o mid now names m fault told mine none s (inl h) =
    load_free Map name text_limit (after_load Scale o) mid now names fault told
    (record { bytes = mine.0.bytes; held = mine.0.held; short = mine.0.short }) none s h
mapping_free laws (Named name) o mid now names m fault told mine none s (inr h) =
    map_free laws mine.0.bytes m fault mine.1 (its_bytes (after_load Scale o) names name text_limit (λ t. MapCause t fault) told
    (record { bytes = mine.0.bytes; held = mine.0.held; short = mine.0.short }) h.0)
mapping_free laws At440 o mid now names m fault told mine none s h = absurd h
mapping_free laws Standard o mid now names m fault told mine none s h = absurd h

no_tune_fault : (o : Outside) (c : Command) (t : Tuning o c) (fault : Fault) → IsTuneFault t.entries t.mapping fault → ⊥
no_tune_fault o c t (ReferenceUnmapped key) h = t.mapped h.1
no_tune_fault o c t (TooManyPeriods key) h =
    let many = h.2 in
    let few = t.few key 0 h.1 in
    absurd (omega (arith, many, few))
no_tune_fault o c t fault h = absurd h

input_free : OneAnswer → (o : Outside) (words : List (List ℕ)) (a : IsAccepted o words) (table : Targets) → IsTable (scaling_of a.tuning) table
    → (fault : Fault) → InputCause a.command table a.input.bytes fault → fault ≡ Memory
input_free laws o words a table is_table (Smf offset kind) h = absurd (laws.no_file_fault a.input.bytes a.source offset kind a.spelled h)
input_free laws o words a table is_table Memory h = refl
input_free laws o words a table is_table fault h = no_event_cause laws o words a table is_table fault h

sample_free : OneAnswer → (o : Outside) (words : List (List ℕ)) (a : IsAccepted o words) (table : Targets) → IsTable (scaling_of a.tuning) table
    → (fault : Fault) → SampleCause a.command table a.input.bytes fault → fault ≡ Memory
sample_free laws o words a table is_table (Smf offset kind) h = absurd h
sample_free laws o words a table is_table Memory h = refl
sample_free laws o words a table is_table fault h = no_event_cause laws o words a table is_table fault h

no_table_cause : OneAnswer → (before mid : Outside) (c : Command) (names : Held) (t : Tuning before c) (now : Counts) → before.held ≡ Some names
    → NoneRose before.faults now → MaySay mid.faults now
    → (fault : Fault) → TableCause c before mid fault → fault ≡ Memory
no_table_cause laws before mid c names t now told none s fault (inl (inl h)) =
    load_free Scale c.scale text_limit before mid now names fault told t.is_scale.0 none s h
no_table_cause laws before mid c names t now told none s fault (inl (inr h)) =
    scale_free laws t.is_scale.0.bytes t.entries fault t.is_scale.1 (its_bytes before names c.scale text_limit (λ b. ScaleCause b fault) told
    t.is_scale.0 h.0)
no_table_cause laws before mid c names t now told none s fault (inr h) =
    let scale : h.0 ≡ t.entries = same_scale laws before names c.scale t.entries h.0 told t.is_scale h.1 in
    elim h.2 [
      | inl l ↦ mapping_free laws c.mapping before mid now names t.mapping fault told t.is_mapping none s l
      | inr r ↦
          let mapping : r.0 ≡ t.mapping = same_mapping laws before names c.mapping t.mapping r.0 told t.is_mapping r.1 in
          absurd (no_tune_fault before c t fault
          (subst (λ es. IsTuneFault es t.mapping fault) scale (subst (λ m. IsTuneFault h.0 m fault) mapping r.3)))
    ]

its_table : OneAnswer → (o : Outside) (c : Command) (names : Held) (t : Tuning o c) (table : Targets) → o.held ≡ Some names → TableFrom o c table
    → IsTable (scaling_of t) table
its_table laws o c names t table told from =
    let scale : from.0.entries ≡ t.entries = same_scale laws o names c.scale t.entries from.0.entries told t.is_scale from.0.is_scale in
    let mapping : from.0.mapping ≡ t.mapping = same_mapping laws o names c.mapping t.mapping from.0.mapping told t.is_mapping from.0.is_mapping in
    subst (λ es. IsTable (one_scale es t.mapping) table) scale (subst (λ m. IsTable (one_scale from.0.entries m) table) mapping from.1.is_table)

no_input_cause : OneAnswer → (before mid : Outside) (words : List (List ℕ)) (a : IsAccepted before words) (now : Counts) → NoneRose before.faults now
    → MaySay mid.faults now
    → (table : Targets) → IsTable (scaling_of a.tuning) table → (sample : Option ℕ) → IsInput before sample a.command.input a.input.bytes
    → (fault : Fault) → InputStops sample a.command table (after_texts a.command before) mid fault → fault ≡ Memory
no_input_cause laws before mid words a now none s table is_table None is_input fault h =
    let o = after_texts a.command before in
    let mine : Content o a.command.input input_limit = record { bytes = a.input.bytes; held = is_input; short = a.input.short } in
    elim h [
      | inl l ↦ load_free Input a.command.input input_limit o mid now a.names fault a.told mine none s l
      | inr r ↦ input_free laws before words a table is_table fault
          (its_bytes o a.names a.command.input input_limit (λ t. InputCause a.command table t fault) a.told mine r.0)
    ]
no_input_cause laws before mid words a now none s table is_table (Some chords) is_input fault h =
    sample_free laws before words a table is_table fault (subst (λ b. SampleCause a.command table b fault) (sym is_input) h.1)

no_cause : OneAnswer → (before mid : Outside) (words : List (List ℕ)) (a : IsAccepted before words) (now : Counts) → NoneRose before.faults now
    → MaySay mid.faults now
    → (fault : Fault) → CommandCause a.command before mid fault → fault ≡ Memory
no_cause laws before mid words a now none s fault (inl h) = no_table_cause laws before mid a.command a.names a.tuning now a.told none s fault h
no_cause laws before mid words a now none s fault (inr h) =
    no_input_cause laws before mid words a now none s h.0 (its_table laws before a.command a.names a.tuning h.0 a.told h.1) a.command.sample
    a.input.is_input fault h.2

-- the cause of a command is that of the words' own
its_cause : OneAnswer → (before mid : Outside) (words : List (List ℕ)) (a : IsAccepted before words) (now : Counts) → NoneRose before.faults now
    → MaySay mid.faults now
    → (fault : Fault) → StopsAt before mid words fault → fault ≡ Memory
its_cause laws before mid words a now none s fault h =
    let same : h.0 ≡ a.command = let other : reading_of words ≡ Read h.0 = h.1 in let mine : reading_of words ≡ Read a.command = a.is_command in cc in
    no_cause laws before mid words a now none s fault (subst (λ c. CommandCause c before mid fault) same h.2)

-- the loads of a command count no failure
none_failed : (sample : Option ℕ) (o : Outside) → (after_input_of sample o).faults ≡ o.faults
none_failed None o = refl
none_failed (Some chords) o = refl

pub accepted_is_not_refused : OneAnswer → (before now : Outside) (words : List (List ℕ)) (fault : Fault)
    → IsAccepted before words → NoneRose before.faults now.faults → IsRefused before now words fault → fault ≡ Memory
accepted_is_not_refused laws before now words (Usage kind) a none h =
    let mine : reading_of words ≡ Read a.command = a.is_command in
    let other : reading_of words ≡ Wrong kind = h.1.0 in
    absurd cc
accepted_is_not_refused laws before now words Store a none h =
    let loads = none_failed h.1.0.command.sample (after_texts h.1.0.command before) in
    absurd (store_rose before.faults h.0.faults now.faults none (ap (λ (o : Outside). o.faults) h.1.1.only ∙ ap one_store loads)
    (told_faults (fault_line Store) h.0 now h.2))
accepted_is_not_refused laws before now words Say a none h =
    let loads = none_failed h.1.0.command.sample (after_texts h.1.0.command before) in
    absurd (say_rose before.faults h.0.faults now.faults none (ap (λ (o : Outside). o.faults) h.1.1.only ∙ ap one_say loads)
    (ap (λ (o : Outside). o.faults) h.2))
accepted_is_not_refused laws before now words Memory a none h = refl
accepted_is_not_refused laws before now words fault a none h =
    its_cause laws before h.0 words a now.faults none (told_faults (fault_line fault) h.0 now h.2) fault h.1
