use Rattle.std.proofs.Common.{◌≡◌, false, Option, refl, ap, sym, ◌∙◌}
use Rattle.std.specs.List.{list_any}
use Rattle.std.proofs.lemmas.Bool.{or_from}
use Rattle.edit_stack.specs.declared.element.Element.{Element}
use Rattle.edit_stack.specs.Element.{step_of}
use Rattle.edit_stack.specs.Lists.{opened, shown}
use Rattle.edit_stack.specs.Shown.{Shown}
use Rattle.undo_rules.specs.Tags.{has_tag, holds}
use Rattle.edit_stack.proofs.Tags.{in_order, holds_closed}
use Rattle.edit_stack.proofs.stack.EditStack.holds.Goals as goal
use Rattle.edit_stack.proofs.stack.EditStack.holds.Goals.{in_default-via-in-Some+else-has, in_default-via-in_default}

pub returns-in_default : goal.returns-in_default
returns-in_default g c =
    let inside = c.self.inside in let o = inside.open_element in let es = inside.elements.items in let h = c.self.invariant in let tag = c.args.tag in
    let within = λ (e : Option (Element g.row.C.Denot)). list_any (has_tag tag) (opened e) in
    let none : within o ≡ false = elim c.in_default.branch [
      | in_default-via-in-Some+else-has w ↦
          ap within w.in-Some.is ∙ or_from (has_tag tag (step_of w.in-Some.open)) false (sym w.has.ensures ∙ w.if-has.false) refl
      | in_default-via-in_default w ↦ ap within w.in_default.is
    ] in
    c.has_first.ensures ∙ holds_closed (shown inside).stack o es inside.kept h.kept (in_order o es inside.done inside.kept h.apart) tag none
    ∙ ap (λ (s : Shown g.row.C.Denot). holds s.stack tag) c.self.view_is
