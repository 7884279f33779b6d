-- Each part of a node is smaller than the node.
use Rattle.std.specs.Prelude.{suc, ◌≤◌, max}
use Rattle.std.proofs.Common.{arith}
use Rattle.bracket_nodes.specs.declared.node.Link.{Link}
use Rattle.bracket_nodes.specs.declared.node.Link.TheVariants.{Here, Shared}
use Rattle.bracket_nodes.specs.declared.node.Shape.{Shape}
use Rattle.bracket_nodes.specs.declared.node.Shape.TheVariants.{Text, Pair, Stray, Capped, Two, Three}
use Rattle.bracket_nodes.specs.declared.node.Inner.TheDeep.{deep-Link, deep-Shape}
use Rattle.bracket_nodes.specs.Shapes.{link_tree, tree_of, tree_size}

depth_of_link : (l : Link) → deep-Link l ≤ suc (tree_size (link_tree l))
depth_of_link (Here leaf) = omega arith
depth_of_link (Shared inner) = omega arith

pub depth_le-size : (s : Shape) → max (deep-Shape s) 0 ≤ tree_size (tree_of s)
depth_le-size (Text l) = omega arith
depth_le-size (Pair kind open_width inside close_width) = let part = depth_of_link inside in omega arith
depth_le-size (Stray kind width) = omega arith
depth_le-size (Capped kind width) = omega arith
depth_le-size (Two a b) =
    let first = depth_of_link a in
    let second = depth_of_link b in
    omega arith
depth_le-size (Three a b c) =
    let first = depth_of_link a in
    let second = depth_of_link b in
    let third = depth_of_link c in
    omega arith
