use Rattle.std.proofs.Common.{subst, sym}
use Rattle.scala_lines.specs.Characters.{Are}
use Rattle.scale_changes.specs.Names.{is_name_byte}
use Rattle.scale_changes.proofs.Names.{name_is_text}
use Rattle.scale_changes.proofs.line.name_alone.Goals as goal

pub returns-in-Err : goal.returns-in-Err
returns-in-Err c =
    absurd (c.in-Err.ensures.cases.0 (name_is_text c.name_bytes-name.result.now
    (subst (Are is_name_byte) (sym c.name_bytes-name.ensures) (c.prefixes.ensures.passes is_name_byte c.args.text.now))))
