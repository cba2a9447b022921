use Rattle.scala_lines.specs.Lines.{lines_of}
use Rattle.scl_text.specs.Spelling.{ScaleText}
use Rattle.mtune_files.specs.declared.which.Which.TheVariants.{Scale}
use Rattle.mtune_core.specs.Limits.{text_limit}
use Rattle.mtune_core.specs.Table.{ScaleCause}
use Rattle.mtune_core.proofs.Stages.{made_at, faults_at}
use Rattle.mtune_core.proofs.preparing.load_scale.Goals as goal

pub returns-clause-scale : goal.returns-clause-scale
returns-clause-scale g c = made_at c.read_scale.result (g.F.Files.outside c.args.files.now) c.args.name.now c.in_ok-text.text.items c.deref.result.now
    text_limit (λ s text. ScaleText (lines_of text) s)
    c.in_ok-text.ensures.content c.in_ok-text.ensures.short c.deref.ensures.value c.read_scale.ensures.found

pub returns-clause-cause : goal.returns-clause-cause
returns-clause-cause g c = faults_at c.read_scale.result (g.F.Files.outside c.args.files.now) (g.F.Files.outside c.load.new.files) Scale
    c.args.name.now c.in_ok-text.text.items c.deref.result.now text_limit ScaleCause
    c.in_ok-text.ensures.content c.in_ok-text.ensures.short c.deref.ensures.value c.in_ok-text.ensures.loaded c.read_scale.ensures.cause
