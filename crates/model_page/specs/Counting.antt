-- The number of steps of a question about brackets: one for each call that asks the old tree for a node or a bracket.
use Rattle.std.specs.Prelude.{◌≡◌, ℕ, ◌+◌, ◌*◌, ◌≤◌, true, List, Option, Some}
use Rattle.hiding_rules.specs.Hidden.{Scanner}
use Rattle.line_states.specs.Settling.{Borders}
use Rattle.bracket_rules.specs.declared.TheConstants.{MOST_OPEN}
use Rattle.bracket_tree_rules.specs.Tree.{Tree, nesting, highest}
use Rattle.mark_rules.specs.declared.Mark.{Mark}
use Rattle.reuse_rules.specs.Prices.{all_paired}
use Rattle.reuse_rules.specs.Ways.{IsOneRun}
use Rattle.node_reuse.specs.Paying.{token_count, most_steps}
use Rattle.model_page.specs.Asked.{lines_to_ask}
use Rattle.document_rules.specs.Brackets.{line_contents}

-- The number of steps is bounded by the formula, from the tokens of the lines to be read, the tree's nesting and the height of its lists.
-- This holds if all brackets of the old tree are paired, these lines are consecutive, and twice the nesting plus the tokens is at most
-- `MOST_OPEN`.
abbrev pub TakesFewSteps : Option Tree → Borders → List Mark → Scanner → List ℕ → ℕ → ℕ → Type 0
TakesFewSteps old last marks by x before after =
    (tree : Tree) → old ≡ Some tree → all_paired tree ≡ true → IsOneRun (lines_to_ask last marks by x)
    → let tokens = token_count by (line_contents x) (lines_to_ask last marks by x) in
    2 * nesting tree + tokens ≤ MOST_OPEN → after ≤ before + most_steps (nesting tree) (highest tree) tokens
