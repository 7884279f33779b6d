use Rattle.std.proofs.Common.{arith}
use Rattle.line_hunks.proofs.SideLaws.{front-lines, all-lines}
use Rattle.line_hunks.proofs.Finding.{holds-front, holds-gap, holds-back}
use Rattle.line_hunks.proofs.sides.Sides.place.Goals as goal

pub find-requires : goal.find-requires
find-requires c =
    omega (arith, c.if-lines-self.true, front-lines c.self.inside.tree.items c.self.inside.before c.self.inside.lines c.self.invariant c.self.inside.tree.spare c.args.self.now c.self.view_is, all-lines c.self.inside.tree.items c.self.inside.before c.self.inside.lines c.self.invariant c.self.inside.tree.spare c.args.self.now c.self.view_is)

pub returns-then-lines-self : goal.returns-then-lines-self
returns-then-lines-self c =
    holds-front c.self.inside.tree.items c.self.inside.before c.self.inside.lines c.self.invariant c.self.inside.tree.spare c.args.self.now c.self.view_is c.args.gap c.args.lines c.find.result.0 c.find.result.1 c.find.ensures c.if-lines-self.true

pub returns-then-behind-gap : goal.returns-then-behind-gap
returns-then-behind-gap c =
    holds-gap c.self.inside.tree.items c.self.inside.before c.self.inside.lines c.self.invariant c.self.inside.tree.spare c.args.self.now c.self.view_is c.args.gap c.args.lines _ (omega (arith, c.if-lines-self.false)) c.if-behind-gap.true

pub find-requires-2 : goal.find-requires-2
find-requires-2 c =
    omega (arith, c.if-lines-self.false, c.if-behind-gap.false, c.requires, front-lines c.self.inside.tree.items c.self.inside.before c.self.inside.lines c.self.invariant c.self.inside.tree.spare c.args.self.now c.self.view_is, all-lines c.self.inside.tree.items c.self.inside.before c.self.inside.lines c.self.invariant c.self.inside.tree.spare c.args.self.now c.self.view_is)

pub returns : goal.returns
returns c =
    holds-back c.self.inside.tree.items c.self.inside.before c.self.inside.lines c.self.invariant c.self.inside.tree.spare c.args.self.now c.self.view_is c.args.gap c.args.lines c.find-2.result.0 c.find-2.result.1 c.find-2.ensures (omega (arith, c.if-lines-self.false, c.if-behind-gap.false))
