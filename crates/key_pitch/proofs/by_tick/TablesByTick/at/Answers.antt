use Rattle.std.proofs.Common.{rules}
use Rattle.std.specs.Prelude.{nat_le}
use Rattle.std.proofs.lemmas.List.Sorted.{IsPartitionPoint-from_clause}
use Rattle.key_pitch.proofs.Latest.{begun_before, some_begun, last_begun_at}
use Rattle.key_pitch.proofs.by_tick.TablesByTick.at.Goals as goal

pub overflow_sub-result : goal.overflow_sub-result
overflow_sub-result c =
    let tables = c.args.self.now in
    some_begun c.args.tick tables.entries.now c.partition_point-begun.result tables.timeline
    (IsPartitionPoint-from_clause (λ e. nat_le e.0 c.args.tick) tables.entries.now c.partition_point-begun.result c.partition_point-begun.ensures.partitioned
    (begun_before c.args.tick tables.entries.now tables.timeline.ascending) (λ a r f k. search rules))

pub returns : goal.returns
returns c =
    let tables = c.args.self.now in
    last_begun_at c.args.tick tables.entries.now c.partition_point-begun.result c.index-self-begun.result tables.timeline c.partition_point-begun.ensures.bound
    (IsPartitionPoint-from_clause (λ e. nat_le e.0 c.args.tick) tables.entries.now c.partition_point-begun.result c.partition_point-begun.ensures.partitioned
    (begun_before c.args.tick tables.entries.now tables.timeline.ascending) (λ a r f k. search rules))
