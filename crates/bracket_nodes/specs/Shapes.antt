-- The tree of a node.
use Rattle.std.specs.Prelude.{ℕ, ◌+◌}
use Rattle.bracket_tree_rules.specs.Tree.{Tree, text, pair, stray, capped, nothing, two, three}
use Rattle.bracket_nodes.specs.declared.node.Link.{Link}
use Rattle.bracket_nodes.specs.declared.node.Link.TheVariants.{Here, Shared}
use Rattle.bracket_nodes.specs.declared.node.Shape.{Shape}
use Rattle.bracket_nodes.specs.declared.node.Shape.TheVariants.{Text, Pair, Stray, Capped, Two, Three}
use Rattle.bracket_nodes.specs.Forms.{form_tree}

abbrev pub link_tree : Link → Tree
link_tree (Here leaf) = form_tree leaf
link_tree (Shared inner) = inner.value

abbrev pub tree_of : Shape → Tree
tree_of (Text l) = text l
tree_of (Pair kind open_width inside close_width) = pair kind open_width (link_tree inside) close_width
tree_of (Stray kind width) = stray kind width
tree_of (Capped kind width) = capped kind width
tree_of (Two a b) = two (link_tree a) (link_tree b)
tree_of (Three a b c) = three (link_tree a) (link_tree b) (link_tree c)

-- the number of nodes of a tree
abbrev pub tree_size : Tree → ℕ
tree_size (text l) = 1
tree_size (pair kind open_width inside close_width) = 1 + tree_size inside
tree_size (stray kind width) = 1
tree_size (capped kind width) = 1
tree_size nothing = 1
tree_size (two a b) = 1 + (tree_size a + tree_size b)
tree_size (three a b c) = 1 + (tree_size a + (tree_size b + tree_size c))
