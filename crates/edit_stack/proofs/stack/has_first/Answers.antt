use Rattle.std.proofs.Common.{sym, ◌∙◌}
use Rattle.undo_rules.specs.Tags.{has_tag}
use Rattle.edit_stack.proofs.Tags.{has_found, not_found}
use Rattle.edit_stack.proofs.stack.has_first.Goals as goal

pub loop-at-preserved : goal.loop-at-preserved
loop-at-preserved g c =
    not_found (has_tag c.args.tag) c.args.elements.now.items c.loop-at.at c.get.result.now c.get.ensures (sym c.has.ensures ∙ c.if-has.false) c.loop-at.invariant

pub returns-then-has : goal.returns-then-has
returns-then-has g c =
    has_found (has_tag c.args.tag) c.args.elements.now.items c.args.kept c.loop-at.at c.get.result.now c.requires c.loop-at-test.true c.get.ensures (sym c.has.ensures ∙ c.if-has.true)
