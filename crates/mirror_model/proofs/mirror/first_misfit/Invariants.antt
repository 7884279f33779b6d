use Rattle.std.proofs.Common.{◌≡◌, ℕ, List, length}
use Rattle.mirror_model.proofs.Misfits.{FitSoFar}
use Rattle.mirror_model.proofs.mirror.first_misfit.Given as goal

abbrev pub invariant-loop-batch : goal.invariant-loop-batch
invariant-loop-batch l = record {
  number : l.number ≡ l.batch-index;
  fit : (x : List ℕ) → length x ≡ l.fn.len → FitSoFar x l.batches l.batch-index l.len;
}
