-- The nodes and brackets at a place of a tree, which nodes may be taken for another text, and the rows of a text from
-- a place on.
use Rattle.std.specs.Prelude.{◌≡◌, ℕ, zero, suc, ◌-◌, ◌<◌, ◌≤◌, ◌⊎◌, false, nat_lt, if◌then◌else◌, List, [], ◌∷◌, drop, ⊤}
use Rattle.text_lengths.specs.declared.Length.{Length}
use Rattle.text_lengths.specs.Length.{length_plus, is_before}
use Rattle.bracket_rules.specs.declared.Token.{Token}
use Rattle.bracket_rules.specs.Table.{token}
use Rattle.bracket_rules.specs.Parse.{Bracket}
use Rattle.bracket_rules.specs.Rows.{Row, row}
use Rattle.bracket_tree_rules.specs.Tree.{Tree, text, pair, stray, capped, nothing, two, three, tree_length, tree_tokens, inside_start, is_nothing}
use Rattle.bracket_tree_rules.specs.Told.{Fits}

-- ---- nodes

-- node n is the tree itself, at its start
pub record IsHere (p : Length) (t : Tree) (q : Length) (n : Tree) : Type 0 where
  pub node : n ≡ t
  pub place : q ≡ p

-- node n is at place q in the tree that starts at place p; the brackets of a pair are not nodes
abbrev pub HasNode : Length → Tree → Length → Tree → Type 0
HasNode p (text l) q n = IsHere p (text l) q n
HasNode p (pair kind open_width inside close_width) q n =
    IsHere p (pair kind open_width inside close_width) q n ⊎ HasNode (inside_start p open_width) inside q n
HasNode p (stray kind width) q n = IsHere p (stray kind width) q n
HasNode p (capped kind width) q n = IsHere p (capped kind width) q n
HasNode p nothing q n = IsHere p nothing q n
HasNode p (two a b) q n =
    IsHere p (two a b) q n ⊎ (HasNode p a q n ⊎ HasNode (length_plus p (tree_length a)) b q n)
HasNode p (three a b c) q n =
    IsHere p (three a b c) q n ⊎ (HasNode p a q n ⊎ (HasNode (length_plus p (tree_length a)) b q n
    ⊎ HasNode (length_plus (length_plus p (tree_length a)) (tree_length b)) c q n))

-- the bracket is a member of the list
abbrev pub IsAmong : Bracket → List Bracket → Type 0
IsAmong b [] = ⊥
IsAmong b (first ∷ rest) = (b ≡ first) ⊎ IsAmong b rest

-- bracket b belongs to the tree that starts at place p
abbrev pub HasBracket : Length → Tree → Bracket → Type 0
HasBracket p t b = IsAmong b (tree_tokens p t)

-- Place q is the start of a text or of a bracket of the tree, or the end of the tree.
pub data IsEdge (p : Length) (t : Tree) (q : Length) : Type 0 where
  at_text : (l : Length) → HasNode p t q (text l) → IsEdge p t q
  at_bracket : (b : Bracket) → HasBracket p t b → b.place ≡ q → IsEdge p t q
  at_end : q ≡ length_plus p (tree_length t) → IsEdge p t q

-- ---- what may be taken

-- The number of lines that a text of this length touches, including the one in which it starts. A text that ends just
-- after a break does not touch the next line.
abbrev pub lines_touched : ℕ → ℕ → ℕ
lines_touched lines zero = lines
lines_touched lines (suc columns) = suc lines

abbrev pub touched : Length → ℕ
touched l = lines_touched l.lines l.columns

-- the node may be taken where `lines` lines are left and `level` brackets are open, of the kinds `kinds`
pub record MayBeTaken (lines kinds level : ℕ) (n : Tree) : Type 0 where
  pub some : is_nothing n ≡ false
  pub within : touched (tree_length n) ≤ lines
  pub fits : Fits kinds level n

-- n is a node at place q that may be taken, and no longer node there may be taken
pub record IsLongest (p : Length) (t : Tree) (q : Length) (lines kinds level : ℕ) (n : Tree) : Type 0 where
  pub stands : HasNode p t q n
  pub taken : MayBeTaken lines kinds level n
  pub longest : (m : Tree) → HasNode p t q m → MayBeTaken lines kinds level m → is_before (tree_length n) (tree_length m) ≡ false

-- no node at place q may be taken
abbrev pub NoneMayBeTaken : Length → Tree → Length → ℕ → ℕ → ℕ → Type 0
NoneMayBeTaken p t q lines kinds level = (n : Tree) → HasNode p t q n → MayBeTaken lines kinds level n → ⊥

-- ---- rows from a place on

-- the brackets from a column on, with their columns relative to it
abbrev pub later_brackets : ℕ → List Token → List Token
later_brackets column [] = []
later_brackets column (t ∷ ts) =
    if nat_lt t.at column then later_brackets column ts
    else token (t.at - column) t.len t.kind t.opening ∷ later_brackets column ts

-- the rows with the first one starting at a column; only the last row counts columns
abbrev pub from_column : ℕ → List Row → List Row
from_column column [] = []
from_column column (r ∷ []) = row (later_brackets column r.brackets) (r.columns - column) ∷ []
from_column column (r ∷ next ∷ rows) = row (later_brackets column r.brackets) r.columns ∷ next ∷ rows

abbrev pub rows_from : Length → List Row → List Row
rows_from p rows = from_column p.columns (drop p.lines rows)

-- ---- what stands before

-- all brackets start before this column
abbrev pub AreBefore : ℕ → List Token → Type 0
AreBefore column [] = ⊤
AreBefore column (t ∷ ts) = (t.at < column) × AreBefore column ts

-- the brackets of the last row start before its end
abbrev pub IsBounded : List Row → Type 0
IsBounded [] = ⊤
IsBounded (r ∷ []) = AreBefore r.columns r.brackets
IsBounded (r ∷ next ∷ rows) = IsBounded (next ∷ rows)
