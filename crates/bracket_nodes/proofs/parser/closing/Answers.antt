use Rattle.std.proofs.Common.{◌∙◌, sym, ap, refl}
use Rattle.text_lengths.specs.declared.Length.{Length}
use Rattle.bracket_tree_rules.specs.Tree.{stray}
use Rattle.bracket_nodes.specs.declared.parser.Taken.TheVariants.{One}
use Rattle.bracket_nodes.proofs.parser.closing.Goals as goal

pub returns-then-has : goal.returns-then-has
returns-then-has c = rw (sym c.has.ensures ∙ c.if-has.true) refl

pub returns : goal.returns
returns c =
    rw (sym c.has.ensures ∙ c.if-has.false)
    (ap One (c.in_ok-stray_node.ensures ∙ ap (λ (l : Length). stray c.args.kind l.columns) c.wide.ensures))
