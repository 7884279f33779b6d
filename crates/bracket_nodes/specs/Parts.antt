-- A part of a tree at its place.
use Rattle.std.specs.Prelude.{ℕ, ◌+◌, List}
use Rattle.bracket_rules.specs.Parse.{Judged}
use Rattle.bracket_tree_rules.specs.Tree.{weight, tree_entries}
use Rattle.bracket_nodes.specs.Seen.{seen_tree}
use Rattle.bracket_nodes.specs.declared.placed.Placed.{Placed}

-- its entries, inside `level` pairs
abbrev pub entries_at : Placed → ℕ → List Judged
entries_at here level = tree_entries here.start level (seen_tree here.node)

-- the lines and columns before it plus its weight, an upper bound for every place in it
abbrev pub reach : Placed → ℕ
reach here = here.start.lines + here.start.columns + weight (seen_tree here.node)
