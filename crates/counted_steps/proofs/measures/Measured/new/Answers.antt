use Rattle.bracket_tree_rules.specs.Tree.{weight}
use Rattle.counted_steps.proofs.Heights.{low_list}
use Rattle.counted_steps.proofs.measures.Measured.new.Goals as goal

pub invariant_of-result : goal.invariant_of-result
invariant_of-result c =
    record { low = low_list c.highest.result (weight c.args.tree.now) c.highest.ensures.low c.length-length.ensures.light }
