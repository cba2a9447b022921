use Rattle.lifetimes.proofs.parts.Parts.restart.Goals as goal

pub returns-clause-stands : goal.returns-clause-stands
returns-clause-stands g c = c.new.ensures.stands (g.T.Aims.table c.args.self.now.table)
