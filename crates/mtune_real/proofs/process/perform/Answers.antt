use Rattle.std.proofs.Common.{List, ℕ, ap, subst, ◌∙◌}
use Rattle.std.specs.Process.{exit_status}
use Rattle.command_line.specs.Words.{texts}
use Rattle.mtune_real.specs.Ended.{IsEnded}
use Rattle.mtune_real.proofs.Ends.{by_fault}
use Rattle.mtune_real.proofs.process.perform.Goals as goal

pub returns-in-Ok : goal.returns-in-Ok
returns-in-Ok g c =
    let P : List (List ℕ) → Type 0 = λ words. IsEnded (exit_status c.exit_code.result) (g.F.Files.outside c.args.files.now) (g.F.Files.outside c.run.new.files) words in
    subst P (ap texts c.as_slice.ensures.value ∙ c.in-Ok.ensures)
    (by_fault c.run.result.fault (exit_status c.exit_code.result) _ _ _ (c.exit_code.ensures ∙ c.run.ensures.status) c.run.ensures.done c.run.ensures.refused)
