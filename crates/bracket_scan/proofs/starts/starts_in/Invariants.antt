use Rattle.std.proofs.Common.{◌≡◌, ◌++◌, drop}
use Rattle.bracket_scan.specs.Starts.{starts_in}
use Rattle.bracket_scan.proofs.starts.starts_in.Given as goal

abbrev pub invariant-loop-i : goal.invariant-loop-i
invariant-loop-i l = l.starts.items ++ starts_in l.bucket l.i (drop l.i l.pairs) ≡ starts_in l.bucket 0 l.pairs
