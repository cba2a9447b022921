use Rattle.std.proofs.Common.{◌≡◌, List, Result, Ok, Err, ap, subst, ◌∙◌, inl, inr}
use Rattle.std.specs.Prelude.{◌≢◌, IfOk, IfErr, OnOk, None}
use Rattle.scl_text.specs.declared.entry.Entry.{Entry}
use Rattle.kbm_text.specs.Map.{KeyMap}
use Rattle.retune_model.specs.Scale.{above_middle}
use Rattle.retune_model.specs.Table.{AreFewTerms, one_scale}
use Rattle.key_pitch.specs.Aims.{by_onset}
use Rattle.key_pitch.specs.declared.table.KeyTable.{KeyTable}
use Rattle.mtune_files.specs.Outside.{Outside, after_load}
use Rattle.mtune_files.specs.declared.which.Which.TheVariants.{Scale}
use Rattle.mtune_core.specs.declared.outcome.Fault.{Fault}
use Rattle.command_line.specs.Words.{Command, MapChoice, Named, At440, Standard, view_command}
use Rattle.mtune_core.specs.Table.{IsScaleAt, IsMappingAt, IsOneTable, IsTuneFault, MappingCause, TableFrom, TableCause, after_mapping, after_texts}
use Rattle.mtune_core.proofs.Stages.{handed_on}
use Rattle.mtune_core.proofs.preparing.load_table.Goals as goal

-- a load changes nothing that is held
at_start : (choice : MapChoice) (o : Outside) (m : KeyMap) → IsMappingAt (after_load Scale o) choice m → IsMappingAt o choice m
at_start (Named name) o m h = (record { bytes = h.0.bytes; held = h.0.held; short = h.0.short }, h.1)
at_start At440 o m h = h
at_start Standard o m h = h

its_mapping : (o mid : Outside) (choice : MapChoice) (m : KeyMap) → mid ≡ after_load Scale o → IsMappingAt mid choice m → IsMappingAt o choice m
its_mapping o mid choice m loaded h = at_start choice o m (subst (λ p. IsMappingAt p choice m) loaded h)

its_table : (r : Result KeyTable Fault) (o : Outside) (c : Command) (entries : List Entry) (m : KeyMap) → IsScaleAt o c.scale entries
    → IsMappingAt o c.mapping m
    → OnOk r (above_middle entries m m.reference ≢ None) → OnOk r (AreFewTerms (one_scale entries m))
    → IfOk r (λ t. IsOneTable (one_scale entries m) (by_onset t)) → IfOk r (λ t. TableFrom o c (by_onset t))
its_table (Ok t) o c entries m scale mapping mapped few is =
    (record { entries = entries; mapping = m; is_scale = scale; is_mapping = mapping; mapped = mapped; few = few }, is)
its_table (Err e) o c entries m scale mapping mapped few is = tt

its_fault : (r : Result KeyTable Fault) (o now : Outside) (c : Command) (entries : List Entry) (m : KeyMap) → IsScaleAt o c.scale entries
    → IsMappingAt o c.mapping m → now ≡ after_texts c o
    → IfErr r (λ e. IsTuneFault entries m e) → IfErr r (λ e. TableCause c o now e)
its_fault (Ok t) o now c entries m scale mapping loaded h = tt
its_fault (Err e) o now c entries m scale mapping loaded h = inr (entries, scale, inr (m, mapping, loaded, h))

pub returns-in_err-scale-clause-cause : goal.returns-in_err-scale-clause-cause
returns-in_err-scale-clause-cause g c =
    handed_on c.from_residual.result c.in_err-scale.field-0.0 _ c.from_residual.ensures.1 (inl c.in_err-scale.ensures.cause)

pub returns-in_err-mapping-clause-cause : goal.returns-in_err-mapping-clause-cause
returns-in_err-mapping-clause-cause g c =
    let o = g.F.Files.outside c.args.files.now in
    let command = view_command c.args.command.now in
    handed_on c.from_residual-in_err-mapping.result c.in_err-mapping.field-0.0 _ c.from_residual-in_err-mapping.ensures.1
    (inr (
      c.in_ok-scale.scale,
      c.in_ok-scale.ensures.scale,
      inl (subst (λ p. MappingCause command.mapping p (g.F.Files.outside c.load_mapping.new.files) c.in_err-mapping.field-0.0)
          c.in_ok-scale.ensures.loaded c.in_err-mapping.ensures.cause),
    ))

pub returns-clause-table : goal.returns-clause-table
returns-clause-table g c =
    let o = g.F.Files.outside c.args.files.now in
    let command = view_command c.args.command.now in
    its_table c.key_table.result o command c.in_ok-scale.scale c.in_ok-mapping.mapping c.in_ok-scale.ensures.scale
    (its_mapping o (g.F.Files.outside c.load_scale.new.files) command.mapping c.in_ok-mapping.mapping c.in_ok-scale.ensures.loaded
    c.in_ok-mapping.ensures.mapping)
    c.key_table.ensures.mapped c.key_table.ensures.few c.key_table.ensures.table

pub returns-clause-cause : goal.returns-clause-cause
returns-clause-cause g c =
    let o = g.F.Files.outside c.args.files.now in
    let command = view_command c.args.command.now in
    its_fault c.key_table.result o (g.F.Files.outside c.load_mapping.new.files) command c.in_ok-scale.scale c.in_ok-mapping.mapping
    c.in_ok-scale.ensures.scale
    (its_mapping o (g.F.Files.outside c.load_scale.new.files) command.mapping c.in_ok-mapping.mapping c.in_ok-scale.ensures.loaded
    c.in_ok-mapping.ensures.mapping)
    (c.in_ok-mapping.ensures.loaded ∙ ap (λ p. after_mapping command.mapping p) c.in_ok-scale.ensures.loaded) c.key_table.ensures.cause
