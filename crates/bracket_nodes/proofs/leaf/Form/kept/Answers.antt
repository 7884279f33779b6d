use Rattle.bracket_tree_rules.specs.Tree.{stray}
use Rattle.bracket_nodes.specs.Forms.{IsSound}
use Rattle.bracket_nodes.proofs.KeptLemmas.{Keeps-stray}
use Rattle.bracket_nodes.proofs.leaf.Form.kept.Goals as goal

pub returns-in-Stray : goal.returns-in-Stray
returns-in-Stray c =
    let sound : IsSound (stray c.in-Stray.kind c.in-Stray.width) = rw c.in-Stray.is at c.requires in
    rw (c.in-Stray.is, c.leaf_kept-in-Stray.ensures, c.wide-in-Stray.ensures, c.one.ensures)
    (Keeps-stray c.in-Stray.kind c.in-Stray.width sound.tree sound.light)
