use Rattle.std.proofs.Common.{map, take, ap, ◌∙◌}
use Rattle.edit_stack.specs.Element.{step_of}
use Rattle.edit_stack.specs.Shown.{Shown}
use Rattle.undo_rules.specs.Tags.{untagged_last, with_steps, all_steps}
use Rattle.edit_stack.proofs.LastTags.{last_untagged}
use Rattle.edit_stack.proofs.stack.EditStack.untag_last.Goals as goal

pub returns-clause-stack : goal.returns-clause-stack
returns-clause-stack g c =
    let m = c.self.inside in
    let doc = c.args.doc in
    let count = c.args.count in
    let one = c.untag_open-left in
    last_untagged doc count one.new.open m.open_element c.untag_closed.new.elements.items m.elements.items m.done m.kept c.self.invariant.apart one.ensures.still
    c.untag_closed.ensures.len one.ensures.steps
    (c.untag_closed.ensures.items ∙ ap (λ n. untagged_last doc n (map step_of (take m.kept m.elements.items))) one.ensures.left)
    ∙ ap (λ (s : Shown g.row.C.Denot). with_steps s.stack (untagged_last doc count (all_steps s.stack))) c.self.view_is
