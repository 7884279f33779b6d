-- A part of a node on the path is on the path too.
use Rattle.bracket_tree_rules.specs.Tree.{Tree}
use Rattle.bracket_tree_rules.specs.Parts.{IsPart}
use Rattle.bracket_tree_rules.proofs.Parts.{part_shown}
use Rattle.bracket_nodes.specs.declared.placed.Placed.{Placed}
use Rattle.bracket_nodes.specs.Paths.{IsOnPath}
use Rattle.bracket_nodes.specs.Seen.{seen_tree}
use Rattle.bracket_nodes.proofs.Descent.{part_tree}

pub on_path : (whole : Tree) (here part : Placed) → IsOnPath whole here
    → IsPart here.start (seen_tree here.node) part.start (seen_tree part.node) → IsOnPath whole part
on_path whole here part h is = record {
  tree = part_tree here.start (seen_tree here.node) part.start (seen_tree part.node) h.tree is;
  shown = part_shown _ _ _ _ _ h.tree h.shown is;
}
