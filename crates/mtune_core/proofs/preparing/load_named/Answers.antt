use Rattle.scala_lines.specs.Lines.{lines_of}
use Rattle.kbm_text.specs.Spelling.{MapText}
use Rattle.mtune_files.specs.declared.which.Which.TheVariants.{Map}
use Rattle.mtune_core.specs.Limits.{text_limit}
use Rattle.mtune_core.specs.Table.{MapCause}
use Rattle.mtune_core.proofs.Stages.{made_at, faults_at}
use Rattle.mtune_core.proofs.preparing.load_named.Goals as goal

pub returns-clause-mapping : goal.returns-clause-mapping
returns-clause-mapping g c = made_at c.read_mapping.result (g.F.Files.outside c.args.files.now) c.args.name.now c.in_ok-text.text.items
    c.deref.result.now text_limit (λ m text. MapText (lines_of text) m)
    c.in_ok-text.ensures.content c.in_ok-text.ensures.short c.deref.ensures.value c.read_mapping.ensures.found

pub returns-clause-cause : goal.returns-clause-cause
returns-clause-cause g c = faults_at c.read_mapping.result (g.F.Files.outside c.args.files.now) (g.F.Files.outside c.load.new.files) Map
    c.args.name.now c.in_ok-text.text.items c.deref.result.now text_limit MapCause
    c.in_ok-text.ensures.content c.in_ok-text.ensures.short c.deref.ensures.value c.in_ok-text.ensures.loaded c.read_mapping.ensures.cause
