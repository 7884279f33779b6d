use Rattle.std.proofs.Common.{◌<◌, ◌^◌, ◌∙◌, ap, sym, arith}
use Rattle.bracket_tree_rules.specs.Tree.{Tree, tree_level, weight, nesting}
use Rattle.bracket_nodes.specs.Seen.{seen_tree}
use Rattle.bracket_nodes.proofs.node.Node.level_at.Goals as goal

pub loop-next-init : goal.loop-next-init
loop-next-init c =
    let light : weight (seen_tree c.seen.result) < 2 ^ 64 = c.whole.ensures.light in
    let levels : nesting (seen_tree c.seen.result) < 2 ^ 64 = c.whole.ensures.levels in
    rw (c.whole.ensures.start, c.whole.ensures.node) (
      record { tree = c.whole.ensures.tree; places = omega (arith, light); levels = omega (arith, levels) },
      ap (λ (t : Tree). tree_level t c.args.place) (sym c.self.view_is ∙ sym c.seen.ensures.same),
    )
