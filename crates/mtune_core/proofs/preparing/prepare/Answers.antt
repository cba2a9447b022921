use Rattle.std.proofs.Common.{inl}
use Rattle.command_line.specs.Words.{view_command}
use Rattle.key_pitch.specs.Aims.{by_onset}
use Rattle.mtune_core.proofs.Stages.{handed_on}
use Rattle.mtune_core.proofs.Steps.{prepared, input_stopped}
use Rattle.mtune_core.proofs.preparing.prepare.Goals as goal

pub returns-in_err-table-clause-cause : goal.returns-in_err-table-clause-cause
returns-in_err-table-clause-cause g c =
    handed_on c.from_residual.result c.in_err-table.field-0.0 _ c.from_residual.ensures.1 (inl c.in_err-table.ensures.cause)

pub returns-clause-made : goal.returns-clause-made
returns-clause-made g c = prepared c.make.result (g.F.Files.outside c.args.files.now) (g.F.Files.outside c.load_table.new.files)
    (view_command c.args.command.now) (by_onset c.in_ok-table.table)
    c.in_ok-table.ensures.loaded c.in_ok-table.ensures.table c.make.ensures.made

pub returns-clause-cause : goal.returns-clause-cause
returns-clause-cause g c = input_stopped c.make.result (g.F.Files.outside c.args.files.now) (g.F.Files.outside c.load_table.new.files)
    (g.F.Files.outside c.make.new.files) (view_command c.args.command.now) (by_onset c.in_ok-table.table)
    c.in_ok-table.ensures.loaded c.in_ok-table.ensures.table c.make.ensures.cause
