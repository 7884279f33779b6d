use Rattle.std.proofs.Common.{length, sym, subst}
use Rattle.line_states.specs.Settling.{AreOf}
use Rattle.line_states.proofs.OfLines.{AreOf-edited}
use Rattle.line_states.proofs.states.States.edit.Goals as goal

pub invariant_of-self : goal.invariant_of-self
invariant_of-self c =
    let last = c.self.inside.last in
    subst (AreOf (length last.begins)) (sym c.edit.ensures.marks)
    (AreOf-edited (length last.begins) c.args.first c.args.old c.args.new c.self.inside.hunks.marks c.self.invariant)
