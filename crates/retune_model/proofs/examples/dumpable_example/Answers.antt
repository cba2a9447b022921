use Rattle.midi_model.specs.Examples.{dump}
use Rattle.retune_model.specs.Options.{ByDump}
use Rattle.retune_model.specs.Examples.{equal_table, even, with_route, reset_between}
use Rattle.retune_model.proofs.Instances.{dumpable}
use Rattle.retune_model.proofs.examples.dumpable_example.Goals as goal

pub returns-clause-dumpable : goal.returns-clause-dumpable
returns-clause-dumpable c = dumpable c.fault_laws.ensures.none c.exact.ensures.least c.exact.ensures.most

pub returns-clause-same : goal.returns-clause-same
returns-clause-same c = c.dump_plays_the_same.ensures.events even (with_route ByDump 12) equal_table dump reset_between (returns-clause-dumpable c)
