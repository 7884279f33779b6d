-- The tree of a borrowed node.
use Rattle.bracket_tree_rules.specs.Tree.{Tree, text, pair, stray, capped, nothing, two, three}
use Rattle.bracket_nodes.specs.declared.link.Seen.{Seen}
use Rattle.bracket_nodes.specs.declared.link.Seen.TheVariants.{Here, Shared}
use Rattle.bracket_nodes.specs.declared.link.Shown.{Shown}
use Rattle.bracket_nodes.specs.declared.link.Shown.TheVariants.{Text, Pair, Stray, Capped, Nothing, Two, Three}
use Rattle.bracket_nodes.specs.Forms.{form_tree}

abbrev pub seen_tree : Seen → Tree
seen_tree (Here leaf) = form_tree leaf
seen_tree (Shared inner) = inner.now.value

abbrev pub shown_tree : Shown → Tree
shown_tree (Text l) = text l
shown_tree (Pair kind open_width inside close_width) = pair kind open_width (seen_tree inside) close_width
shown_tree (Stray kind width) = stray kind width
shown_tree (Capped kind width) = capped kind width
shown_tree Nothing = nothing
shown_tree (Two a b) = two (seen_tree a) (seen_tree b)
shown_tree (Three a b c) = three (seen_tree a) (seen_tree b) (seen_tree c)
