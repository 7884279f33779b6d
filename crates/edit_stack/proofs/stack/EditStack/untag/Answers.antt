use Rattle.std.proofs.Common.{◌≡◌, [], ◌∷◌, map, take, Option, ap, sym, ◌∙◌}
use Rattle.std.specs.Prelude.{is_some}
use Rattle.edit_stack.specs.declared.element.Element.{Element}
use Rattle.edit_stack.specs.declared.stack.EditStack.TheInside.{Inside}
use Rattle.edit_stack.specs.Lists.{opened, shown}
use Rattle.edit_stack.specs.Shown.{Shown}
use Rattle.undo_rules.specs.Stack.{Step}
use Rattle.undo_rules.specs.Tags.{without_tag, untagged}
use Rattle.edit_stack.proofs.Tags.{tag_off}
use Rattle.edit_stack.proofs.stack.EditStack.untag.Goals as goal
use Rattle.edit_stack.proofs.stack.EditStack.untag.Goals.{in-Some, in_default}

pub returns-clause-stack : goal.returns-clause-stack
returns-clause-stack g c =
    let was = c.self.inside in let now = c.match-self.self-inside in let tag = c.args.tag in
    let with_open = λ (m : Inside g.row.C.Denot). record m { open_element = was.open_element } in
    let steps = λ (m : Inside g.row.C.Denot). opened m.open_element in let is_open = λ (m : Inside g.row.C.Denot). is_some m.open_element in
    let off = λ (o : Option (Element g.row.C.Denot)). map (without_tag tag) (opened o) in
    let same : with_open now ≡ was = elim c.match-self.branch [ in-Some w ↦ ap with_open w.self-inside-is | in_default w ↦ ap with_open w.self-inside-is ] in
    let last : opened now.open_element ≡ off was.open_element = elim c.match-self.branch [
      | in-Some w ↦ ap steps w.self-inside-is ∙ ap (λ (s : Step g.row.C.Denot). s ∷ []) w.untag.ensures.step ∙ sym (ap off w.in-Some.is)
      | in_default w ↦ ap steps w.self-inside-is ∙ ap opened w.in_default.is ∙ sym (ap off w.in_default.is)
    ] in
    let still : is_open now ≡ is_open was = elim c.match-self.branch [
      | in-Some w ↦ ap is_open w.self-inside-is ∙ sym (ap is_some w.in-Some.is)
      | in_default w ↦ ap is_open w.self-inside-is
    ] in
    tag_off tag now.open_element was.open_element (take now.kept c.untag_first.new.elements.items) (take now.kept now.elements.items) now.done last still c.untag_first.ensures.items
    ∙ ap (λ (m : Inside g.row.C.Denot). untagged (shown m).stack tag) same ∙ ap (λ (s : Shown g.row.C.Denot). untagged s.stack tag) c.self.view_is
