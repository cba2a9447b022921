use Rattle.smf_read.proofs.Found.{is_found, is_only, is_first}
use Rattle.smf_read.proofs.file.read_smf.Goals as goal

pub returns-clause-found : goal.returns-clause-found
returns-clause-found c = is_found c.file_laws.ensures.found c.exact.result c.args.bytes.now c.exact.ensures

pub returns-clause-only : goal.returns-clause-only
returns-clause-only c = is_only c.file_laws.ensures.only c.exact.result c.args.bytes.now c.exact.ensures

pub returns-clause-fault : goal.returns-clause-fault
returns-clause-fault c = is_first c.file_laws.ensures.first c.exact.result c.args.bytes.now c.exact.ensures
