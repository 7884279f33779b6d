use Rattle.std.proofs.Common.{◌≡◌, refl, arith}
use Rattle.text_lengths.proofs.Lengths.{same_length}
use Rattle.bracket_tree_rules.specs.Tree.{wide}
use Rattle.bracket_nodes.proofs.KeptLemmas.{Keeps-stray}
use Rattle.bracket_nodes.proofs.makers.stray_node.Goals as goal

pub invariant_of-shared : goal.invariant_of-shared
invariant_of-shared c =
    let width = c.args.bracket.columns in
    let same : c.args.bracket ≡ wide width = same_length c.args.bracket (wide width) c.requires.bracket.in_line refl in
    rw (c.leaf_kept-kept.ensures, c.one.ensures, same)
    (Keeps-stray c.args.kind width (record { has_kind = c.requires.has_kind; wide = c.requires.bracket.wide }) (omega arith))
