-- The lines that a parse reads, and the height of its tree.
use Rattle.std.specs.Prelude.{◌≡◌, ℕ, zero, suc, ◌+◌, ◌≤◌, ◌^◌, Bool, false, if◌then◌else◌, List, [], ◌++◌, length, sum, Option, Some, None, refl}
use Rattle.std.specs.Option.{option_map}
use Rattle.std.specs.Coded.{Coded, code_by, coded_ℕ, coded_list, coded×}
use Rattle.bracket_tree_rules.specs.Tree.{Tree, highest}
use Rattle.hiding_rules.specs.declared.LineState.TheVariants.{Code}
use Rattle.hiding_rules.specs.Hidden.{Scanner}
use Rattle.hiding_rules.specs.Marks.{has_block}
use Rattle.hiding_rules.specs.States.{line_states}
use Rattle.hiding_rules.specs.Known.{state_behind, scanned_lines}
use Rattle.line_states.specs.Lines.{text_weights}
use Rattle.line_states.specs.Settling.{Borders, known_lines}
use Rattle.mark_rules.specs.declared.Mark.{Mark}
use Rattle.node_reuse.specs.ParsedTree.{ParsedTree, parsed_tree_code}
use Rattle.document_rules.specs.Brackets.{line_contents}

-- a parse, and the numbers of the lines of the text that it read, in order
pub record ReadTree : Type 0 where
  pub parsed : ParsedTree
  pub read : List ℕ

-- a code by which proofs tell them apart
abbrev pub read_tree_code : Coded ReadTree
read_tree_code =
    code_by (ParsedTree × List ℕ) (coded× parsed_tree_code (coded_list coded_ℕ)) (λ r. (r.parsed, r.read))
    (λ r. record { parsed = r.0; read = r.1 }) (λ _. refl)

-- the parse itself, if any
abbrev pub told_parse : Option ReadTree → Option ParsedTree
told_parse parse = option_map (λ (p : ReadTree). p.parsed) parse

-- the tree of a parse, if any
abbrev pub parsed_tree : Option ReadTree → Option Tree
parsed_tree None = None
parsed_tree (Some parse) = Some parse.parsed.tree

-- after one op or more the last parse is not of the present text; after none this is as before
abbrev pub KeptBy : ℕ → Bool → Bool → Type 0
KeptBy zero old new = new ≡ old
KeptBy (suc ops) old new = new ≡ false

-- the states of the lines of text x
pub record AreStatesOf (by : Scanner) (x : List ℕ) (states : Borders) : Type 0 where
  pub begins : states.begins ≡ line_states by (line_contents x)
  pub ends : states.ends ≡ state_behind by Code (line_contents x)

-- the lines that a parse of text x reads: new ones, and those that begin in another state than in the last parse
abbrev pub lines_to_ask : Borders → List Mark → Scanner → List ℕ → List ℕ
lines_to_ask last marks by x = scanned_lines 1 (known_lines last marks) (line_states by (line_contents x))

-- the lines that are read to find the states of all lines: none without block comments
abbrev pub lines_to_settle : Borders → List Mark → Scanner → List ℕ → List ℕ
lines_to_settle last marks by x = if has_block by.marks then lines_to_ask last marks by x else []

-- there is a parse of text x, and it read these lines only
abbrev pub HasRead : Option ReadTree → Borders → List Mark → Scanner → List ℕ → Type 0
HasRead None last marks by x = ⊥
HasRead (Some parse) last marks by x =
    let asked = lines_to_ask last marks by x in
    (parse.parsed.asked ≡ length asked) × (parse.read ≡ lines_to_settle last marks by x ++ asked)

-- The height of each list in the tree is at most logarithmic in the text: 2 to the height is at most the number of units of the lines and
-- of breaks between them, plus 1.
abbrev pub IsLow : Tree → List ℕ → Type 0
IsLow tree x = 2 ^ highest tree ≤ sum (text_weights (line_contents x)) + 1

-- `IsLow` for a tree that must exist
abbrev pub HasLowTree : Option Tree → List ℕ → Type 0
HasLowTree None x = ⊥
HasLowTree (Some tree) x = IsLow tree x
