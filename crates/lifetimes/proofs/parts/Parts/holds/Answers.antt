use Rattle.lifetimes.proofs.parts.Parts.holds.Goals as goal

pub returns-clause-holds : goal.returns-clause-holds
returns-clause-holds g c es s = c.holds.ensures.holds (g.T.Aims.table c.args.self.now.table) es s

pub returns-clause-pairs : goal.returns-clause-pairs
returns-clause-pairs g c es s bends = c.holds.ensures.pairs (g.T.Aims.table c.args.self.now.table) es s bends
