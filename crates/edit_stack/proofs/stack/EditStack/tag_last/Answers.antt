use Rattle.std.proofs.Common.{◌<◌, ◌++◌, length, Option, ap, sym, ◌∙◌, subst}
use Rattle.edit_stack.specs.declared.element.Element.{Element}
use Rattle.edit_stack.specs.Lists.{opened, kept_elements}
use Rattle.edit_stack.specs.Shown.{Shown}
use Rattle.undo_rules.specs.Tags.{tagged}
use Rattle.edit_stack.proofs.Cursors.{before}
use Rattle.edit_stack.proofs.Tags.{tag_put}
use Rattle.edit_stack.proofs.stack.EditStack.tag_last.Goals as goal

pub returns-in-None-clause-stack : goal.returns-in-None-clause-stack
returns-in-None-clause-stack g c =
    let inside = c.self.inside in let h = c.self.invariant in let kept = kept_elements inside in
    let some : 0 < length (before kept inside.done) =
    subst (λ (o : Option (Element g.row.C.Denot)). 0 < length (opened o ++ before kept inside.done)) c.in-None.is
    (subst (λ (s : Shown g.row.C.Denot). 0 < length s.stack.undo) (sym c.self.view_is) c.requires) in
    tag_put inside.open_element inside.elements.items inside.done inside.kept c.get_mut.result.now c.args.tag c.in-None.is h.done h.kept some c.get_mut.ensures.value
    ∙ ap (λ (s : Shown g.row.C.Denot). tagged s.stack c.args.tag) c.self.view_is
