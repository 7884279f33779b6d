-- What a source of brackets has ahead, what it gives, and the parse of it.
use Rattle.std.specs.Prelude.{◌≡◌, ℕ, ◌+◌, ◌<◌, ◌≤◌, Bool, true, false, ◌==◌, if◌then◌else◌, List, [], ◌∷◌, ◌++◌, length, sum, Some, None, ⊤}
use Rattle.bracket_rules.specs.declared.TheConstants.{MOST_PAIRS}
use Rattle.bracket_rules.specs.Rows.{Row}
use Rattle.bracket_rules.specs.TextRows.{HasRow, empty_row, glue}
use Rattle.bracket_tree_rules.specs.Tree.{Tree, pair, stray, nothing, bracket_row, tree_rows, weight, is_nothing, IsTree, items}
use Rattle.bracket_tree_rules.specs.Weights.{glue_weights, tree_weights, all_weights, AreCovered}
use Rattle.bracket_tree_rules.specs.Told.{has_kind, Fits, Tells}
use Rattle.bracket_nodes.specs.declared.parser.Next.{Next}
use Rattle.bracket_nodes.specs.declared.parser.Next.TheVariants.{End, Ready, Bracket}
use Rattle.bracket_nodes.specs.declared.parser.Stop.{Stop}
use Rattle.bracket_nodes.specs.declared.parser.Stop.TheVariants.{AtEnd, AtClosing}
use Rattle.bracket_nodes.specs.declared.parser.Taken.{Taken}
use Rattle.bracket_nodes.specs.declared.parser.Taken.TheVariants.{One, Last, Nothing}

-- The lines of a text that a source reads: their contents, the numbers of those asked for, in order, the numbers of
-- those still to ask for, and the count of lines asked for that it reports. The last field gives proofs the borrows
-- by which it reads.
pub record Asking : Type 0 where
  pub contents : List (List ℕ)
  pub asked : List ℕ
  pub left : List ℕ
  pub count : ℕ
  pub borrows : List ℕ

-- The rows from here to the end of the text, and bounds for the weight of the leaves in each line: in the rest of the
-- current line, and in each line after it. The source may still have to ask for some of the lines.
pub record Ahead : Type 0 where
  pub rows : List Row
  pub line : ℕ
  pub later : List ℕ
  pub asking : Asking

abbrev pub weights_ahead : Ahead → List ℕ
weights_ahead a = a.line ∷ a.later

-- the sum of the bounds for all these lines
unfoldable pub weight_ahead : Ahead → ℕ
weight_ahead a = sum (weights_ahead a)

-- ---- what a source asks for

-- a source that asks for no line
abbrev pub asks_nothing : Asking
asks_nothing = record { contents = []; asked = []; left = []; count = 0; borrows = [] }

-- the lines asked for are taken from the front of those left
pub record AsksOn (old new : Asking) : Type 0 where
  pub contents : new.contents ≡ old.contents
  pub asked : new.asked ++ new.left ≡ old.asked ++ old.left
  pub count : new.count + length new.left ≡ old.count + length old.left
  pub borrows : new.borrows ≡ old.borrows

-- ---- what a source gives

-- a node that may be used here, where `level` brackets are open, of the kinds `kinds`
pub record GivesNode (old new : Ahead) (kinds level : ℕ) (t : Tree) : Type 0 where
  pub tree : IsTree t
  pub some : is_nothing t ≡ false
  pub fits : Fits kinds level t
  pub spells : old.rows ≡ glue (tree_rows t) new.rows
  pub weighs : AreCovered (glue_weights (tree_weights t) (weights_ahead new)) (weights_ahead old)
  pub rest : HasRow new.rows

pub record GivesBracket (old new : Ahead) (kind width : ℕ) (opening : Bool) : Type 0 where
  pub has_kind : kind < MOST_PAIRS
  pub wide : 0 < width
  pub spells : old.rows ≡ glue (bracket_row kind width opening) new.rows
  pub weighs : AreCovered (glue_weights (width ∷ []) (weights_ahead new)) (weights_ahead old)
  pub rest : HasRow new.rows

-- no unit and no line is left, and none is still to be asked for
pub record IsOver (a : Ahead) : Type 0 where
  pub empty : a.rows ≡ empty_row ∷ []
  pub last : a.later ≡ []
  pub asked : a.asking.left ≡ []

-- the source reached the end, and took nothing from the text
pub record Ends (old new : Ahead) : Type 0 where
  pub over : IsOver new
  pub rows : old.rows ≡ new.rows
  pub weights : weights_ahead old ≡ weights_ahead new

abbrev pub Comes : Ahead → Ahead → ℕ → ℕ → Next → Type 0
Comes old new kinds level End = Ends old new
Comes old new kinds level (Ready node) = GivesNode old new kinds level node
Comes old new kinds level (Bracket kind width opening) = GivesBracket old new kind width opening

-- ---- what is parsed

-- the rows after a list with this stop: a closing bracket that ended it has been taken already
abbrev pub rows_after : Stop → Ahead → List Row
rows_after AtEnd new = new.rows
rows_after (AtClosing kind width) new = glue (bracket_row kind width false) new.rows

abbrev pub stop_width : Stop → ℕ
stop_width AtEnd = 0
stop_width (AtClosing kind width) = width

abbrev pub weights_after : Stop → Ahead → List ℕ
weights_after stop new = glue_weights (stop_width stop ∷ []) (weights_ahead new)

pub record IsClosing (kinds kind width : ℕ) : Type 0 where
  pub is_open : has_kind kinds kind ≡ true
  pub has_kind : kind < MOST_PAIRS
  pub wide : 0 < width

-- a list stops at the end of the text, or at a closing bracket of an open kind
abbrev pub IsStop : ℕ → Ahead → Stop → Type 0
IsStop kinds new AtEnd = IsOver new
IsStop kinds new (AtClosing kind width) = IsClosing kinds kind width

-- The tree is the list up to the stop. The weight of its lines is within the bounds taken for them, and its total
-- weight within the bounds for all.
pub record Listed (old new : Ahead) (kinds level : ℕ) (t : Tree) (stop : Stop) : Type 0 where
  pub tells : Tells kinds level old.rows (rows_after stop new) (items t)
  pub stops : IsStop kinds new stop
  pub weighs : AreCovered (glue_weights (tree_weights t) (weights_after stop new)) (weights_ahead old)
  pub together : weight t + (stop_width stop + weight_ahead new) ≤ weight_ahead old
  pub rest : HasRow new.rows

-- the node is the parse of the rows between
pub record Parsed (old new : Ahead) (kinds level : ℕ) (t : Tree) : Type 0 where
  pub tells : Tells kinds level old.rows new.rows (items t)
  pub some : 0 < weight t
  pub weighs : AreCovered (glue_weights (tree_weights t) (weights_ahead new)) (weights_ahead old)
  pub together : weight t + weight_ahead new ≤ weight_ahead old
  pub rest : HasRow new.rows

abbrev pub Takes : Ahead → Ahead → ℕ → ℕ → Taken → Type 0
Takes old new kinds level (One node) = Parsed old new kinds level node
Takes old new kinds level (Last node stop) = Listed old new kinds level node stop
Takes old new kinds level (Nothing stop) = Listed old new kinds level nothing stop

-- a closing bracket ends the list if its kind is open; else it is an unexpected one
abbrev pub closing_taken : ℕ → ℕ → ℕ → Taken
closing_taken kinds kind width = if has_kind kinds kind then Nothing (AtClosing kind width) else One (stray kind width)

-- the pair of an opening bracket and the list after it; a stop that is not its closing bracket ends the outer list too
abbrev pub pair_taken : ℕ → ℕ → Tree → Stop → Taken
pair_taken kind width inside AtEnd = Last (pair kind width inside None) AtEnd
pair_taken kind width inside (AtClosing other closing) =
    if other == kind then One (pair kind width inside (Some closing)) else Last (pair kind width inside None) (AtClosing other closing)

abbrev pub HasWidth : Stop → Type 0
HasWidth AtEnd = ⊤
HasWidth (AtClosing kind width) = 0 < width

-- what has been read from a source, as the nodes of a list
pub record Reads (start now : Ahead) (kinds level : ℕ) (nodes : List Tree) (w : ℕ) : Type 0 where
  pub tells : Tells kinds level start.rows now.rows nodes
  pub weighs : AreCovered (glue_weights (all_weights nodes) (weights_ahead now)) (weights_ahead start)
  pub together : w + weight_ahead now ≤ weight_ahead start
  pub rest : HasRow now.rows
