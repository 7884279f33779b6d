use Rattle.std.proofs.Common.{◌<◌, length, Option, ap, sym, ◌∙◌, subst, arith}
use Rattle.std.specs.Prelude.{is_some}
use Rattle.edit_stack.specs.declared.element.Element.{Element}
use Rattle.edit_stack.specs.Lists.{opened, shown}
use Rattle.edit_stack.specs.Shown.{Shown}
use Rattle.undo_rules.specs.Tags.{all_steps, tag_at}
use Rattle.edit_stack.proofs.Tags.{in_order, all_count, tag_closed}
use Rattle.edit_stack.proofs.stack.EditStack.tag_at.Goals as goal
use Rattle.edit_stack.proofs.stack.EditStack.tag_at.Goals.{in_default-via-in-Some+else-at-self, in_default-via-in_default}

pub returns-in_default : goal.returns-in_default
returns-in_default g c =
    let inside = c.self.inside in let o = inside.open_element in let es = inside.elements.items in let h = c.self.invariant in let k = c.args.k in
    let steps = in_order o es inside.done inside.kept h.apart in let stack = (shown inside).stack in
    let below : k < length (all_steps stack) = subst (λ (s : Shown g.row.C.Denot). k < length (all_steps s.stack)) (sym c.self.view_is) c.requires in
    let count = all_count stack o es inside.kept h.kept steps in
    let closed : k < inside.kept = elim c.in_default.branch [
      | in_default-via-in-Some+else-at-self w ↦
          let one = ap (λ (e : Option (Element g.row.C.Denot)). length (opened e)) w.in-Some.is in
          omega (arith, below, count, one, h.apart (ap is_some w.in-Some.is), w.if-at-self.false)
      | in_default-via-in_default w ↦
          let none = ap (λ (e : Option (Element g.row.C.Denot)). length (opened e)) w.in_default.is in omega (arith, below, count, none)
    ] in
    tag_closed stack o es inside.kept h.kept steps k c.get.result.now closed c.get.ensures ∙ ap (λ (s : Shown g.row.C.Denot). tag_at s.stack k) c.self.view_is
