use Rattle.std.proofs.Common.{◌<◌, length, sym, ◌∙◌, ap, subst}
use Rattle.edit_stack.specs.Shown.{Shown}
use Rattle.edit_stack.proofs.Cursors.{redo_moves}
use Rattle.undo_rules.specs.Stack.{redone}
use Rattle.edit_stack.proofs.stack.EditStack.redone.Goals as goal

pub returns-clause-stack : goal.returns-clause-stack
returns-clause-stack g c =
    let inside = c.self.inside in
    redo_moves inside.open_element inside.elements.items inside.done inside.kept c.self.invariant.apart (subst (λ (s : Shown g.row.C.Denot). 0 < length s.stack.redo) (sym c.self.view_is) c.requires)
    ∙ ap (λ (s : Shown g.row.C.Denot). redone s.stack) c.self.view_is
