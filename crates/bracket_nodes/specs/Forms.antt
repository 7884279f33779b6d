-- The tree of a node without memory of its own.
use Rattle.std.specs.Prelude.{ℕ, zero, suc, ◌<◌, ◌^◌, min}
use Rattle.text_lengths.specs.Length.{length_of}
use Rattle.bracket_tree_rules.specs.Tree.{Tree, text, pair, stray, capped, nothing, two, wide, weight, IsTree}
use Rattle.bracket_nodes.specs.declared.leaf.TheConstants.{HIGHEST_BREAKS}
use Rattle.bracket_nodes.specs.declared.leaf.ShortPair.{ShortPair}
use Rattle.bracket_nodes.specs.declared.leaf.Form.{Form}
use Rattle.bracket_nodes.specs.declared.leaf.Form.TheVariants.{Nothing, Text, Breaks, Stray, Capped, Pair}

-- line breaks, as a list of this height in which every list has two parts
abbrev pub breaks : ℕ → Tree
breaks zero = text (length_of 1 0)
breaks (suc height) = let half = breaks height in two half half

-- `columns` columns of a line; the empty list for 0
abbrev pub short_inside : ℕ → Tree
short_inside zero = nothing
short_inside (suc columns) = text (wide (suc columns))

abbrev pub short_tree : ShortPair → Tree
short_tree p = pair p.kind p.opening (short_inside p.inside) p.closing

abbrev pub form_tree : Form → Tree
form_tree Nothing = nothing
form_tree (Text columns) = text (wide columns)
form_tree (Breaks height) = breaks (min height HIGHEST_BREAKS)
form_tree (Stray kind width) = stray kind width
form_tree (Capped kind width) = capped kind width
form_tree (Pair p) = short_tree p

-- the tree meets the rules of nodes, and its weight fits 64 bits
pub record IsSound (t : Tree) : Type 0 where
  pub tree : IsTree t
  pub light : weight t < 2 ^ 64
