-- The states at the starts of the lines of a text.
use Rattle.std.specs.Prelude.{ℕ, List, [], ◌∷◌}
use Rattle.hiding_rules.specs.declared.LineState.{LineState}
use Rattle.hiding_rules.specs.declared.LineState.TheVariants.{Code}
use Rattle.hiding_rules.specs.Hidden.{Scanner, hidden_scan}

abbrev pub states_from : Scanner → LineState → List (List ℕ) → List LineState
states_from by state [] = []
states_from by state (x ∷ lines) = state ∷ states_from by (hidden_scan by state x).state lines

-- each line begins in the state in which the line before it ended, and the first one in Code
abbrev pub line_states : Scanner → List (List ℕ) → List LineState
line_states by lines = states_from by Code lines
