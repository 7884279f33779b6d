use Rattle.std.proofs.Common.{◌≡◌, drop}
use Rattle.bracket_rules.specs.Table.{longer}
use Rattle.bracket_scan.specs.Starts.{longest_among}
use Rattle.bracket_scan.proofs.starts.longest_among.Given as goal

abbrev pub invariant-loop-start : goal.invariant-loop-start
invariant-loop-start l =
    longer l.best (longest_among l.pairs l.at (drop l.start-index l.starts) l.units) ≡ longest_among l.pairs l.at l.starts l.units
