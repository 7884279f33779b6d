-- The cost of a reader of the current text: a step for each query of the old text.
use Rattle.std.specs.Prelude.{◌≡◌, ℕ, suc, ◌+◌, ◌-◌, ◌*◌, ◌≤◌, Bool, true, false, if◌then◌else◌, List, [], ◌∷◌, drop, length, Option, Some, None, refl}
use Rattle.text_lengths.specs.declared.Length.{Length}
use Rattle.bracket_rules.specs.declared.TheConstants.{MOST_OPEN}
use Rattle.bracket_tree_rules.specs.Tree.{Tree, nesting, highest}
use Rattle.bracket_nodes.specs.Paying.{Paying}
use Rattle.mark_rules.specs.declared.Mark.{Mark}
use Rattle.mark_rules.specs.declared.Mark.TheVariants.{Kept, New}
use Rattle.reuse_rules.specs.Prices.{Costs, calls, openings, all_paired}
use Rattle.reuse_rules.specs.Ways.{way_price, IsOneRun}
use Rattle.node_reuse.specs.declared.line.Line.{Line}
use Rattle.node_reuse.specs.OldText.{OldText}
use Rattle.hiding_rules.specs.Hidden.{Scanner}
use Rattle.node_reuse.specs.Texts.{line_tokens}
use Rattle.node_reuse.specs.Reader.{Sight, unasked, tokens_left}

-- ---- the old tree

abbrev pub all_paired_in : Option Tree → Bool
all_paired_in None = false
all_paired_in (Some old) = all_paired old

abbrev pub nesting_in : Option Tree → ℕ
nesting_in None = 0
nesting_in (Some old) = nesting old

abbrev pub way_price_in : Costs → Option Tree → List Mark → Length → ℕ
way_price_in costs None marks p = 0
way_price_in costs (Some old) marks p = way_price costs old marks p

-- ---- new lines

-- the tokens of the lines of these numbers
abbrev pub token_count : Scanner → List (List ℕ) → List ℕ → ℕ
token_count by contents [] = 0
token_count by contents (n ∷ lines) = length (line_tokens by contents n) + token_count by contents lines

abbrev pub tokens_read : Bool → Line → ℕ
tokens_read scanned line = if scanned then length (tokens_left line) else 0

-- the tokens left of the current line, if it was scanned, and those of the lines still to ask for
abbrev pub tokens_ahead : Sight → Length → Line → ℕ
tokens_ahead s p line = tokens_read line.scanned line + token_count s.by s.contents (unasked s.old.marks p line.scanned)

-- the number of runs of new lines
abbrev pub new_runs : List Mark → ℕ
new_runs [] = 0
new_runs (New ∷ []) = 1
new_runs (New ∷ New ∷ marks) = new_runs (New ∷ marks)
new_runs (New ∷ Kept i ∷ marks) = suc (new_runs marks)
new_runs (Kept i ∷ marks) = new_runs marks

-- ... from line j on, counted from 0, where the lines before line `new_to` are already known to be new
abbrev pub runs_ahead : List Mark → ℕ → ℕ → ℕ
runs_ahead marks j new_to = new_runs (drop (j + (new_to - j)) marks)

-- ---- what is paid

-- at place p, after `steps` steps: three more are due for the end
abbrev pub paying_at : Sight → ℕ → Length → Line → Paying
paying_at s steps p line = record {
  known = all_paired_in s.old.tree;
  paid = steps;
  due = 3 + way_price_in calls s.old.tree s.old.marks p;
  opens = way_price_in openings s.old.tree s.old.marks p + tokens_ahead s p line;
  deepest = nesting_in s.old.tree;
}

-- ... and one more for each run of new lines about which the old text was not yet queried
abbrev pub paying_so : Sight → ℕ → Length → Line → ℕ → Paying
paying_so s steps p line new_to = record (paying_at s steps p line) {
  due = (paying_at s steps p line).due + runs_ahead s.old.marks p.lines new_to;
}

-- ---- a bound

-- An upper bound for the steps of a parse by an old tree of this nesting, whose lists have at most this height, where
-- the lines asked for are one run with this number of tokens.
abbrev pub most_steps : ℕ → ℕ → ℕ → ℕ
most_steps nesting height tokens = tokens + 16 * ((nesting + 1) * (height + 1))

-- The steps are within this bound if every bracket of the old tree is one of a pair, the lines asked for are one run,
-- and its tokens leave room for the old pairs.
abbrev pub TakesFewSteps : OldText → Scanner → List (List ℕ) → List ℕ → ℕ → ℕ → Type 0
TakesFewSteps old by contents asked from to = (tree : Tree) → old.tree ≡ Some tree → all_paired tree ≡ true → IsOneRun asked
    → let tokens = token_count by contents asked in
    2 * nesting tree + tokens ≤ MOST_OPEN → to ≤ from + most_steps (nesting tree) (highest tree) tokens

pairs_in_one_another : most_steps 1 3 2 ≡ 130
pairs_in_one_another = refl

one_node : most_steps 0 0 0 ≡ 16
one_node = refl
