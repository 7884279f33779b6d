use Rattle.line_hunks.proofs.SideLaws.{front-lines}
use Rattle.line_hunks.proofs.sides.Sides.front_lines.Goals as goal

pub returns : goal.returns
returns c = front-lines c.self.inside.tree.items c.self.inside.before c.self.inside.lines c.self.invariant c.self.inside.tree.spare c.args.self.now c.self.view_is
