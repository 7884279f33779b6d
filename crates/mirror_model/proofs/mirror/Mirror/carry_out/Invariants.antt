use Rattle.std.proofs.Common.{◌≡◌, drop}
use Rattle.mirror_model.proofs.Carries.{IsOnWay}
use Rattle.mirror_model.proofs.mirror.Mirror.carry_out.Given as goal

abbrev pub invariant-loop-batch : goal.invariant-loop-batch
invariant-loop-batch l = record {
  version : l.self-inside.version ≡ l.fn.self.version;
  way : IsOnWay l.fn.self.units l.batches (drop l.batch-index l.batches) l.self-inside.text;
}
