use Rattle.std.proofs.Common.{rules}
use Rattle.mtune_files.proofs.Fronts.{appends_front}
use Rattle.mtune_files.proofs.mem.MemFilesFiles.say.Goals as goal

pub returns-in-Some-clause-failed : goal.returns-in-Some-clause-failed
returns-in-Some-clause-failed c = record {
  front = appends_front c.args.text.now c.args.self.now.told.items c.extend_from_slice.new.self.items c.in-Some.bytes (search rules);
  only = search rules;
}
