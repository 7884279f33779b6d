-- The last parse of a page, and how it fits the present text.
use Rattle.std.specs.Prelude.{◌≡◌, ℕ, ◌-◌, ◌++◌, true, false, if◌then◌else◌, List, length, map, replicate, slice_index_or, Option, Some, None, ⊤}
use Rattle.text_rules.specs.Lines.{lines_of}
use Rattle.bracket_rules.specs.Rows.{Row}
use Rattle.bracket_rules.specs.Table.{is_table}
use Rattle.bracket_tree_rules.specs.Told.{IsTreeOf}
use Rattle.bracket_tree_rules.specs.Tree.{Tree}
use Rattle.hiding_rules.specs.declared.LineState.{LineState}
use Rattle.hiding_rules.specs.declared.LineState.TheVariants.{Code}
use Rattle.hiding_rules.specs.Hidden.{Scanner}
use Rattle.hiding_rules.specs.Marks.{has_block}
use Rattle.hiding_rules.specs.Rows.{lines_by, broken, hidden_rows}
use Rattle.hiding_rules.specs.States.{line_states}
use Rattle.hiding_rules.specs.Known.{Lead, state_behind}
use Rattle.line_states.specs.Settling.{Borders, SettledState, known_lines, settled_marks}
use Rattle.mark_rules.specs.declared.Mark.{Mark}
use Rattle.mark_rules.specs.declared.Mark.TheVariants.{Kept, New}
use Rattle.mark_rules.specs.Marks.{has_new}
use Rattle.node_reuse.specs.Texts.{IsTight}
use Rattle.node_reuse.specs.Reading.{AgreesIfThere}
use Rattle.document_rules.specs.Brackets.{line_contents}
use Rattle.model_page.specs.Asked.{ReadTree, HasRead, IsLow, lines_to_settle}

-- the tree of the last parse, where no line is new
abbrev pub fresh_tree : Option Tree → List Mark → Option Tree
fresh_tree tree marks = if has_new marks then None else tree

-- a tree of the present text
pub record IsTreeNow (tree : Tree) (by : Scanner) (x : List ℕ) : Type 0 where
  pub table : is_table by.table ≡ true
  pub tells : IsTreeOf (hidden_rows by (line_contents x)) tree
  pub low : IsLow tree x

abbrev pub IsKept : Option Tree → Scanner → List ℕ → Type 0
IsKept None by x = ⊤
IsKept (Some tree) by x = IsTreeNow tree by x

-- what contracts see of it
pub record ParseState : Type 0 where
  pub parsed : Option ReadTree
  -- its tree
  pub tree : Option Tree
  -- a mark for each line of the present text
  pub marks : List Mark
  -- the states in which the lines of the last parse began
  pub states : Borders
  -- the number of further edits of the marks that need no allocation
  pub spare : ℕ

-- ---- lines at the last parse

-- the state in which a line with this mark began at the last parse; any state will do for a new line
abbrev pub last_state : Borders → Mark → LineState
last_state last New = Code
last_state last (Kept i) = slice_index_or last.begins (i - 1) Code

abbrev pub last_lines : Borders → List Mark → Scanner → List (List ℕ) → List Row
last_lines last marks by contents = lines_by by (map (last_state last) marks) contents

abbrev pub BeginInCode : Borders → Type 0
BeginInCode last = last.begins ≡ replicate (length last.begins) Code

-- The tree of the last parse, if any, agrees with text x under the marks of its lines, if each kept line begins as it did at that parse.
-- Without new lines it is the tree of this text.
pub record StaysWith (tree : Option Tree) (marks : List Mark) (last : Borders) (by : Scanner) (x : List ℕ) : Type 0 where
  pub count : length marks ≡ length (lines_of x)
  pub agrees : AgreesIfThere tree marks (broken (last_lines last marks by (line_contents x)))
  -- the scan of a kept line goes from the state in which it began to the one in which it ended
  pub lead : Lead by (known_lines last marks) (line_contents x)
  -- without block comments no line begins in one
  pub plain : has_block by.marks ≡ false → BeginInCode last
  pub kept : IsKept (fresh_tree tree marks) by x

-- ---- a parse

-- the lines that settle the states of text x are appended to the numbers of lines read
abbrev pub ReadsToSettle : ParseState → Scanner → List ℕ → List ℕ → List ℕ → Type 0
ReadsToSettle p by x old new = new ≡ old ++ lines_to_settle p.states p.marks by x

-- the lines of text x, settled for a parse
pub record AreSettled (by : Scanner) (x : List ℕ) (last : Borders) (old : List Mark) (settled : SettledState) : Type 0 where
  pub begins : settled.states.begins ≡ line_states by (line_contents x)
  pub ends : settled.states.ends ≡ state_behind by Code (line_contents x)
  pub marks : settled.marks ≡ settled_marks last old (line_states by (line_contents x))

-- a parse of text x that read only the lines it must
pub record IsParseOf (by : Scanner) (x : List ℕ) (last : Borders) (marks : List Mark) (parse : ReadTree) : Type 0 where
  pub now : IsTreeNow parse.parsed.tree by x
  pub tight : IsTight parse.parsed.tree
  pub read : HasRead (Some parse) last marks by x
