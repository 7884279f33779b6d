use Rattle.std.proofs.Common.{rules}
use Rattle.std.proofs.lemmas.List.Sorted.{IsPartitionPoint-from_clause}
use Rattle.interval_deltas.proofs.LineSearch.{is_started, parted, found}
use Rattle.interval_deltas.proofs.lines.far_line_from.Goals as goal

pub returns : goal.returns
returns c =
    let moves = c.args.moves.now in let place = c.args.place in let are = c.requires.lines in let from = c.args.from in
    let point = IsPartitionPoint-from_clause (is_started moves place are) _ _ c.partition_point.ensures.partitioned (parted moves place are from c.requires.from) (λ a r q k. search rules) in
    found moves place are from c.requires.from c.partition_point.result c.partition_point.ensures.bound point
