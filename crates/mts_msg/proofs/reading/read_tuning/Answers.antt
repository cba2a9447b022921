use Rattle.std.proofs.Common.{sym, ◌∙◌}
use Rattle.mts_msg.proofs.Ranges.{dump_within, change_within, dump_read, change_read, reads_dump, reads_other}
use Rattle.mts_msg.proofs.reading.read_tuning.Goals as goal

pub returns-then-is_dump-clause-range : goal.returns-then-is_dump-clause-range
returns-then-is_dump-clause-range c = dump_within c.args.bytes.now _ (sym c.is_dump.ensures.value ∙ c.if-is_dump.true) c.read_values.ensures

pub returns-then-is_dump-clause-dump : goal.returns-then-is_dump-clause-dump
returns-then-is_dump-clause-dump c =
    reads_dump c.args.bytes.now _ _ (dump_read c.args.bytes.now _ (sym c.is_dump.ensures.value ∙ c.if-is_dump.true) c.read_values.ensures)

pub returns-then-is_change-clause-read : goal.returns-then-is_change-clause-read
returns-then-is_change-clause-read c =
    change_read c.args.bytes.now _ (sym c.is_dump.ensures.value ∙ c.if-is_dump.false) (sym c.is_change.ensures.value ∙ c.if-is_change.true) c.read_changes.ensures

pub returns-then-is_change-clause-range : goal.returns-then-is_change-clause-range
returns-then-is_change-clause-range c =
    change_within c.args.bytes.now _ (sym c.is_change.ensures.value ∙ c.if-is_change.true) (c.is_change.ensures.whole c.if-is_change.true).0 c.read_changes.ensures

pub returns-then-is_change-clause-dump : goal.returns-then-is_change-clause-dump
returns-then-is_change-clause-dump c = reads_other c.args.bytes.now _ (sym c.is_dump.ensures.value ∙ c.if-is_dump.false)

pub returns-else-is_change-clause-dump : goal.returns-else-is_change-clause-dump
returns-else-is_change-clause-dump c = reads_other c.args.bytes.now _ (sym c.is_dump.ensures.value ∙ c.if-is_dump.false)
