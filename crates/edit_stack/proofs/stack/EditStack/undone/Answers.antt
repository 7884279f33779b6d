use Rattle.std.proofs.Common.{rules, ◌≡◌, ◌-◌, ◌<◌, ◌≤◌, ◌++◌, length, Option, None, sym, ◌∙◌, ap, subst}
use Rattle.std.specs.Prelude.{is_some}
use Rattle.edit_stack.specs.declared.element.Element.{Element}
use Rattle.edit_stack.specs.Lists.{opened, kept_elements}
use Rattle.edit_stack.specs.Shown.{Shown}
use Rattle.edit_stack.proofs.Cursors.{before, behind, undo_moves}
use Rattle.undo_rules.specs.Stack.{undone, undone_lists}
use Rattle.edit_stack.proofs.stack.EditStack.undone.Goals as goal

pub returns-in-None-clause-stack : goal.returns-in-None-clause-stack
returns-in-None-clause-stack g c =
    let inside = c.self.inside in
    let kept = kept_elements inside in
    let closed : inside.open_element ≡ None = sym c.take.ensures.value ∙ c.in-None.is in
    let after : c.take.new.self ≡ None = c.take.ensures.after in
    let within : inside.kept ≤ length inside.elements.items = search rules in
    let some : 0 < length (before kept inside.done) =
    subst (λ (o : Option (Element g.row.C.Denot)). 0 < length (opened o ++ before kept inside.done)) closed
    (subst (λ (s : Shown g.row.C.Denot). 0 < length s.stack.undo) (sym c.self.view_is) c.requires) in
    (λ i. record { undo = opened (after i) ++ before kept (inside.done - 1); redo = behind kept (inside.done - 1); is_open = is_some (after i) })
    ∙ undo_moves inside.elements.items inside.done inside.kept c.self.invariant.done within some
    ∙ ap (λ (o : Option (Element g.row.C.Denot)). undone_lists (opened o ++ before kept inside.done) (behind kept inside.done)) (sym closed)
    ∙ ap (λ (s : Shown g.row.C.Denot). undone s.stack) c.self.view_is
