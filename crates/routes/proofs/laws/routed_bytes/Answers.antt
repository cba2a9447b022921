use Rattle.routes.proofs.Bytes.{bytes_are_dumps, bytes_are_changes}
use Rattle.routes.proofs.laws.routed_bytes.Goals as goal

pub returns-clause-dump : goal.returns-clause-dump
returns-clause-dump c = bytes_are_dumps c.written_is_read.ensures.dumps

pub returns-clause-changes : goal.returns-clause-changes
returns-clause-changes c = bytes_are_changes c.written_is_read.ensures.changes c.written_is_read.ensures.resets
