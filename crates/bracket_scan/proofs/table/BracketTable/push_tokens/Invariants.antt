use Rattle.std.proofs.Common.{◌≡◌, ◌≤◌, ◌-◌, ◌++◌, length, drop, take}
use Rattle.bracket_rules.specs.Table.{tokens_of, tokens_from}
use Rattle.bracket_scan.proofs.table.BracketTable.push_tokens.Given as goal

abbrev pub invariant-loop-passed : goal.invariant-loop-passed
invariant-loop-passed l = record {
  within : l.at ≤ length l.line;
  kept : take (length l.initial.out.items) l.out.items ≡ l.initial.out.items;
  tokens : l.out.items ++ tokens_from l.self l.at 0 (drop l.at l.line) ≡ l.initial.out.items ++ tokens_of l.self l.line;
}

abbrev pub decreases-loop-passed : goal.decreases-loop-passed
decreases-loop-passed l = length l.line - l.at
