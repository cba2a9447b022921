use Rattle.mtune_files.specs.declared.which.Which.TheVariants.{Input}
use Rattle.command_line.specs.Words.{view_command}
use Rattle.mtune_core.specs.Limits.{input_limit}
use Rattle.mtune_core.specs.Made.{MadeOf}
use Rattle.mtune_core.specs.Retuned.{InputCause}
use Rattle.key_pitch.specs.Aims.{by_onset}
use Rattle.mtune_core.proofs.Stages.{made_at, faults_at}
use Rattle.mtune_core.proofs.preparing.load_input.Goals as goal

pub returns-clause-made : goal.returns-clause-made
returns-clause-made g c = made_at c.retuned.result (g.F.Files.outside c.args.files.now) c.args.command.now.input.now c.in_ok-input.input.items
    c.deref.result.now input_limit
    (λ made input. MadeOf (view_command c.args.command.now) (by_onset c.args.table.now) input made.output.items made.report.items)
    c.in_ok-input.ensures.content c.in_ok-input.ensures.short c.deref.ensures.value c.retuned.ensures.made

pub returns-clause-cause : goal.returns-clause-cause
returns-clause-cause g c = faults_at c.retuned.result (g.F.Files.outside c.args.files.now) (g.F.Files.outside c.load.new.files) Input
    c.args.command.now.input.now c.in_ok-input.input.items c.deref.result.now input_limit
    (InputCause (view_command c.args.command.now) (by_onset c.args.table.now))
    c.in_ok-input.ensures.content c.in_ok-input.ensures.short c.deref.ensures.value c.in_ok-input.ensures.loaded c.retuned.ensures.cause
