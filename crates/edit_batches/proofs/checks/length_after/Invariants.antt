use Rattle.std.proofs.Common.{◌≡◌, ◌+◌, ◌≤◌, drop}
use Rattle.batch_rules.specs.Batches.{most_units, FollowFrom}
use Rattle.edit_batches.proofs.Lengths.{ends_above, length_from}
use Rattle.edit_batches.proofs.checks.length_after.Given as goal

abbrev pub invariant-loop-op : goal.invariant-loop-op
invariant-loop-op l = record {
  follow : FollowFrom l.at (drop l.op-index l.ops);
  inside : l.at ≤ l.len;
  room : l.room ≤ most_units;
  ends : ends_above l.len l.ops ≡ ends_above l.len (drop l.op-index l.ops);
  units : length_from l.len l.at (drop l.op-index l.ops) + most_units ≡ length_from l.len 0 l.ops + l.room;
}
