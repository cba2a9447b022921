use Rattle.command_line.specs.Words.{texts}
use Rattle.mtune_core.proofs.call.run.Goals as goal

pub returns-in-Err-clause-accepts : goal.returns-in-Err-clause-accepts
returns-in-Err-clause-accepts g c = λ accepted none. c.accepted_has_no_fault.ensures (g.F.Files.outside c.args.files.now)
    (g.F.Files.outside c.tell.new.files) (texts c.args.words.now) c.in-Err.fault accepted none
    (g.F.Files.outside c.perform.new.files, c.in-Err.ensures.stopped, c.tell.ensures)
