use Rattle.std.proofs.Common.{length, sym, subst, ap, ◌∙◌}
use Rattle.mark_rules.specs.Marks.{clean_marks}
use Rattle.line_states.specs.Settling.{AreOf}
use Rattle.line_states.proofs.OfLines.{AreOf-clean}
use Rattle.line_states.proofs.states.States.adopt.Goals as goal

pub invariant_of-self : goal.invariant_of-self
invariant_of-self c =
    let lines = length c.args.states.begins in
    let count = c.requires ∙ sym (ap (λ s. length s.marks) c.self.view_is) ∙ sym c.lines-lines.ensures.lines in
    subst (AreOf lines) (ap clean_marks count ∙ sym c.clean.ensures.marks) (AreOf-clean lines)
