use Rattle.std.proofs.Common.{rules}
use Rattle.mtune_files.specs.Mem.{held_by}
use Rattle.mtune_files.proofs.Fronts.{same_but}
use Rattle.mtune_files.proofs.mem.MemFilesFiles.store.Goals as goal

pub returns-in-Some-clause-failed : goal.returns-in-Some-clause-failed
returns-in-Some-clause-failed c = record {
  others = same_but c.add.result (held_by c.args.self.now.entries.items) (held_by c.add.new.self.entries.items) c.args.name.now c.front.result.now (search rules) (search rules);
  only = search rules;
}
