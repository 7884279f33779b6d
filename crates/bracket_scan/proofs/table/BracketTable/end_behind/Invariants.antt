use Rattle.std.proofs.Common.{◌≡◌, ◌-◌, length}
use Rattle.hiding_rules.specs.Hidden.{scanner, hidden_scan}
use Rattle.bracket_scan.specs.Parts.{scanned_at}
use Rattle.bracket_scan.proofs.table.BracketTable.end_behind.Given as goal

abbrev pub invariant-loop-at : goal.invariant-loop-at
invariant-loop-at l =
    (scanned_at (scanner l.self l.hiding) l.at l.within l.line).state ≡ (hidden_scan (scanner l.self l.hiding) l.fn.state l.line).state

abbrev pub decreases-loop-at : goal.decreases-loop-at
decreases-loop-at l = length l.line - l.at
