use Rattle.std.proofs.Common.{◌+◌, ◌≤◌, length, sum}
use Rattle.bracket_nodes.specs.ScannedLines.{AreLines, scanned_weights}
use Rattle.worked_oracles.proofs.tests.whole_parse.scans.Given as goal

abbrev pub invariant-loop-content : goal.invariant-loop-content
invariant-loop-content l = AreLines l.scans.items × (sum (scanned_weights l.scans.items) + length l.rest ≤ length l.text + 1)

abbrev pub decreases-loop-content : goal.decreases-loop-content
decreases-loop-content l = length l.rest
