use Rattle.lifetimes.proofs.parts.Parts.sounds.Goals as goal

pub returns-clause-pairs : goal.returns-clause-pairs
returns-clause-pairs g c es s bends = c.sounds.ensures.pairs (g.T.Aims.table c.args.self.now.table) es s bends
