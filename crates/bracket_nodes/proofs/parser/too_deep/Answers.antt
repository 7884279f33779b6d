use Rattle.std.proofs.Common.{◌∙◌, ap}
use Rattle.text_lengths.specs.declared.Length.{Length}
use Rattle.bracket_tree_rules.specs.Tree.{capped}
use Rattle.bracket_nodes.specs.declared.parser.Taken.TheVariants.{One}
use Rattle.bracket_nodes.proofs.parser.too_deep.Goals as goal

pub returns : goal.returns
returns c = ap One (c.in_ok-capped_node.ensures ∙ ap (λ (l : Length). capped c.args.kind l.columns) c.wide.ensures)
