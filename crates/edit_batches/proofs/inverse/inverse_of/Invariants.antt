use Rattle.std.proofs.Common.{◌≡◌, ◌+◌, ◌≤◌, ◌++◌, length, drop}
use Rattle.batch_rules.specs.Batches.{most_units, applied_from, inverse_from, StandFrom}
use Rattle.edit_batches.proofs.inverse.inverse_of.Given as goal

abbrev pub invariant-loop-op : goal.invariant-loop-op
invariant-loop-op g l = record {
  standing : StandFrom l.at (g.F.Flat.units l.text) (drop l.op-index l.ops);
  fits : l.now + length (applied_from l.at (g.F.Flat.units l.text) (drop l.op-index l.ops)) ≤ most_units;
  ops : l.back.items ++ inverse_from l.at l.now (g.F.Flat.units l.text) (drop l.op-index l.ops) ≡ inverse_from 0 0 (g.F.Flat.units l.text) l.ops;
}
