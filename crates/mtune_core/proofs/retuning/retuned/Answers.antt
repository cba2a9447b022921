use Rattle.std.proofs.Common.{refl}
use Rattle.command_line.specs.Words.{view_command}
use Rattle.key_pitch.specs.Aims.{by_onset}
use Rattle.mtune_core.proofs.Retuned.{below, made_is_retuned, input_refuses}
use Rattle.mtune_core.proofs.Stages.{handed_on}
use Rattle.mtune_core.proofs.retuning.retuned.Goals as goal

pub returns-in_err-smf-clause-cause : goal.returns-in_err-smf-clause-cause
returns-in_err-smf-clause-cause c = handed_on c.from_residual.result c.in_err-smf.field-0.0 _ c.from_residual.ensures.1
    (c.in_err-smf.ensures.cause (view_command c.args.command.now) (by_onset c.args.table.now))

pub returns-clause-made : goal.returns-clause-made
returns-clause-made c = made_is_retuned (record {
  spelt = c.output_is_spelt.ensures;
  same = c.output_plays_the_same.ensures;
  bend = c.fewest_are_used.ensures.bend;
  mpe = c.fewest_are_used.ensures.mpe;
  errors = c.key_laws.ensures.hold;
  notes = c.audit_laws.ensures.hold;
  lines = c.each_note_is_told.ensures;
})
    c.make.result (view_command c.args.command.now) (by_onset c.args.table.now) c.args.input.now c.in_ok-smf.smf c.requires.range (λ key onset. refl)
    c.in_ok-smf.ensures.found c.requires.short (below c.args.input.now c.type_inv.input)
    c.make.ensures.playable c.make.ensures.made

pub returns-clause-cause : goal.returns-clause-cause
returns-clause-cause c = input_refuses c.make.result (view_command c.args.command.now) (by_onset c.args.table.now) c.args.input.now c.in_ok-smf.smf
    c.in_ok-smf.ensures.found c.make.ensures.refused
