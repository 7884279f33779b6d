use Rattle.std.proofs.Common.{leb, rules, sym, arith}
use Rattle.std.proofs.lemmas.List.Sums.{prefix_len_is}
use Rattle.std.proofs.lemmas.List.Sorted.{IsPartitionPoint-from_clause, IsPartitionedBy-leb}
use Rattle.chunk_buffers.proofs.buffer.ends_to.Goals as goal

pub returns-clause-count : goal.returns-clause-count
returns-clause-count c =
    let place = c.args.place in
    let parted = IsPartitionedBy-leb (λ e. e) c.args.ends.now place c.requires in
    let point = IsPartitionPoint-from_clause (λ e. leb e place) _ _ c.partition_point.ensures.partitioned parted (λ a r q k. search rules) in
    sym (prefix_len_is (λ e. leb e place) c.args.ends.now c.partition_point.result 0 c.partition_point.ensures.bound
    (λ k h. point.0 k 0 (omega arith) h) (λ h. point.1 c.partition_point.result 0 (omega arith) h))
