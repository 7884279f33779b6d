use Rattle.bracket_scan.specs.Texts.{Dispatches}
use Rattle.bracket_scan.proofs.table.starts_of.Given as goal

abbrev pub invariant-loop-bucket : goal.invariant-loop-bucket
invariant-loop-bucket l = Dispatches l.bucket l.pairs l.starts.items
