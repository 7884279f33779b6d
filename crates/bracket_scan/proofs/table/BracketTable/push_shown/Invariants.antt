use Rattle.std.proofs.Common.{◌≡◌, ◌-◌, ◌++◌, length, take}
use Rattle.hiding_rules.specs.Hidden.{scanner, hidden_scan}
use Rattle.bracket_scan.specs.Parts.{scanned_at}
use Rattle.bracket_scan.proofs.table.BracketTable.push_shown.Given as goal

abbrev pub invariant-loop-at : goal.invariant-loop-at
invariant-loop-at l = record {
  kept : take (length l.initial.out.items) l.out.items ≡ l.initial.out.items;
  tokens : l.out.items ++ (scanned_at (scanner l.self l.hiding) l.at l.within l.line).tokens
      ≡ l.initial.out.items ++ (hidden_scan (scanner l.self l.hiding) l.fn.state l.line).tokens;
  state : (scanned_at (scanner l.self l.hiding) l.at l.within l.line).state
      ≡ (hidden_scan (scanner l.self l.hiding) l.fn.state l.line).state;
}

abbrev pub decreases-loop-at : goal.decreases-loop-at
decreases-loop-at l = length l.line - l.at
