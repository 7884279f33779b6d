use Rattle.std.proofs.Common.{◌≡◌, drop}
use Rattle.textmodel_c.specs.Rules.{pairs_of}
use Rattle.textmodel_c.proofs.JoinedTexts.{found_before}
use Rattle.textmodel_c.proofs.opening.pairs_of.Given as goal

abbrev pub invariant-loop-pair : goal.invariant-loop-pair
invariant-loop-pair l = found_before l.found.items (pairs_of (drop l.pair-index l.pairs) l.rest) ≡ pairs_of l.fn.pairs l.fn.brackets
