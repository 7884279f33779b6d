use Rattle.std.proofs.Common.{◌∙◌, arith}
use Rattle.line_hunks.proofs.SideLaws.{sum_is, all-lines}
use Rattle.line_hunks.proofs.sides.Sides.lines.Goals as goal

pub returns-clause-lines : goal.returns-clause-lines
returns-clause-lines c =
    c.sum.ensures
    ∙ sum_is c.self.inside.tree.items
    ∙ all-lines c.self.inside.tree.items c.self.inside.before c.self.inside.lines c.self.invariant c.self.inside.tree.spare c.args.self.now c.self.view_is

pub returns-clause-small : goal.returns-clause-small
returns-clause-small c = omega (arith, c.sum.ensures, sum_is c.self.inside.tree.items, c.self.invariant.small)
