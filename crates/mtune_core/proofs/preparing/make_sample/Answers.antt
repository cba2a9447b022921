use Rattle.std.proofs.Common.{subst, ◌∙◌}
use Rattle.midi_model.specs.Spelling.{Spells}
use Rattle.mtune_files.specs.Sample.{sample_bytes, sample_file}
use Rattle.command_line.specs.Words.{view_command}
use Rattle.key_pitch.specs.Aims.{by_onset}
use Rattle.mtune_core.proofs.Entered.{sample_made, sample_refused, sample_is_short}
use Rattle.mtune_core.proofs.preparing.make_sample.Goals as goal

pub returns-clause-made : goal.returns-clause-made
returns-clause-made c = sample_made c.retuned.result (view_command c.args.command.now) (by_onset c.args.table.now) c.deref.result.now
    (sample_bytes c.args.chords)
    (c.deref.ensures.value ∙ c.in_ok-bytes.ensures.bytes) c.retuned.ensures.made

pub returns-clause-cause : goal.returns-clause-cause
returns-clause-cause c = sample_refused c.file_laws.ensures.never_both c.retuned.result (view_command c.args.command.now) (by_onset c.args.table.now)
    c.deref.result.now (sample_bytes c.args.chords)
    (sample_file c.args.chords) (c.deref.ensures.value ∙ c.in_ok-bytes.ensures.bytes)
    (subst (λ b. Spells b (sample_file c.args.chords)) c.in_ok-bytes.ensures.bytes c.in_ok-bytes.ensures.spells) c.retuned.ensures.cause

pub returns-clause-short : goal.returns-clause-short
returns-clause-short c = sample_is_short c.retuned.result c.in_ok-bytes.bytes.items (sample_bytes c.args.chords) c.in_ok-bytes.ensures.bytes
    c.in_ok-bytes.ensures.short
