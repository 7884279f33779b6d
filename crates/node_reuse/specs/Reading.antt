-- What a reader of the current text knows at a place: of the old text, and of the line that it reads.
use Rattle.std.specs.Prelude.{◌≡◌, ℕ, ◌+◌, ◌-◌, Bool, true, false, List, Option, Some, None, length}
use Rattle.text_lengths.specs.declared.Length.{Length}
use Rattle.text_lengths.specs.Length.{length_of}
use Rattle.bracket_rules.specs.declared.Token.{Token}
use Rattle.bracket_rules.specs.Rows.{Row}
use Rattle.bracket_tree_rules.specs.Tree.{Tree, tree_rows, IsTree}
use Rattle.bracket_tree_rules.specs.Places.{rows_from}
use Rattle.mark_rules.specs.declared.Mark.{Mark}
use Rattle.mark_rules.specs.declared.Mark.TheVariants.{Kept, New}
use Rattle.mark_rules.specs.Marks.{mark_at}
use Rattle.reuse_rules.specs.Agreement.{Agrees}
use Rattle.reuse_rules.specs.Following.{Reached, Follows}
use Rattle.bracket_tree_rules.specs.Leaves.{weight_left}
use Rattle.node_reuse.specs.Texts.{IsTight, IsLightBy}
use Rattle.node_reuse.specs.Ahead.{fresh_left, IsFresh}

-- ---- the old text

abbrev pub AllNew : List Mark → Type 0
AllNew marks = (n i : ℕ) → mark_at n marks ≡ Kept i → ⊥

-- The tree of the old text agrees with the current rows under the marks. It is the tree of a text: it meets the rules
-- of nodes, and its breaks include the text before them.
pub record AgreesWith (old : Tree) (marks : List Mark) (now : List Row) : Type 0 where
  pub tree : IsTree old
  pub tight : IsTight old
  pub rows : Agrees (tree_rows old) marks now

-- without a tree no line is kept
abbrev pub AgreesIfThere : Option Tree → List Mark → List Row → Type 0
AgreesIfThere None marks now = AllNew marks
AgreesIfThere (Some old) marks now = AgreesWith old marks now

-- what a reader knows of it: in a kept line the tree weighs at most the bound for that line
pub record Stays (old : Tree) (marks : List Mark) (now : List Row) (weights : List ℕ) : Type 0 where
  pub tree : IsTree old
  pub agrees : Agrees (tree_rows old) marks now
  pub light : IsLightBy old marks weights

abbrev pub StaysIfThere : Option Tree → List Mark → List Row → List ℕ → Type 0
StaysIfThere None marks now weights = AllNew marks
StaysIfThere (Some old) marks now weights = Stays old marks now weights

-- ---- the line that is read

-- at place p, in a line kept from old line `line`, the reader follows the old text
pub record IsFollowing (old : Tree) (marks : List Mark) (now : List Row) (weights : List ℕ) (p : Length) (line : ℕ) : Type 0 where
  pub tree : IsTree old
  pub light : IsLightBy old marks weights
  pub count : length weights ≡ length now
  pub reached : Reached now p (rows_from p now)
  pub follows : Follows old marks p (rows_from p now) line

-- The state of a reader at place p, in a line with this mark: a new line is read from its start, once its tokens and
-- columns are known; in a kept line the reader follows the old text.
abbrev pub IsInLine : Mark → Option Tree → List Mark → List Row → List ℕ → Length → Bool → List Token → ℕ → Type 0
IsInLine New old marks now weights p false tokens columns = p.columns ≡ 0
IsInLine New old marks now weights p true tokens columns = IsFresh now weights p tokens columns
IsInLine (Kept i) None marks now weights p entered tokens columns = ⊥
IsInLine (Kept i) (Some old) marks now weights p entered tokens columns = IsFollowing old marks now weights p (i - 1)

-- the weight left of a line with this mark from place p on; for a kept line, the weight left of the old line
abbrev pub left_by : Mark → Option Tree → List ℕ → Length → ℕ
left_by New old weights p = fresh_left weights p
left_by (Kept i) None weights p = fresh_left weights p
left_by (Kept i) (Some old) weights p = weight_left old (length_of (i - 1) p.columns)

abbrev pub left_at : Option Tree → List Mark → List ℕ → Length → ℕ
left_at old marks weights p = left_by (mark_at (p.lines + 1) marks) old weights p
