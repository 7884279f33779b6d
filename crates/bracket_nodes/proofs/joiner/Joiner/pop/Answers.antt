use Rattle.std.proofs.Common.{◌≡◌, true, ap, sym, ◌∙◌}
use Rattle.bracket_tree_rules.specs.Tree.{nothing, is_nothing}
use Rattle.bracket_nodes.specs.Shapes.{link_tree}
use Rattle.bracket_nodes.proofs.Joined.{no_items, Takes-popped}
use Rattle.bracket_nodes.proofs.joiner.Joiner.pop.Goals as goal

pub returns-then-is_nothing-clause-some : goal.returns-then-is_nothing-clause-some
returns-then-is_nothing-clause-some c =
    let old = c.args.self.now in
    let none : is_nothing (link_tree c.replace-last.result) ≡ true = sym c.is_nothing.ensures ∙ c.if-is_nothing.true in
    let before : link_tree old.last ≡ nothing =
    ap link_tree (sym c.replace-last.ensures.value) ∙ no_items (link_tree c.replace-last.result) none in
    let after : link_tree c.replace-last.new.dest ≡ nothing = ap link_tree c.replace-last.ensures.after ∙ c.nothing.ensures in
    Takes-popped old (record { lists = c.pop.new.self; last = c.replace-last.new.dest }) c.in_ok-before.before
    c.in_ok-before.ensures.items before after
