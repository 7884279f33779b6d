use Rattle.line_hunks.proofs.Pushing.{named-before, few-sum, pushed-behind, front-behind, back-behind}
use Rattle.line_hunks.proofs.sides.Sides.push_back.Goals as goal

pub put_after-requires-clause-named : goal.put_after-requires-clause-named
put_after-requires-clause-named c =
    named-before c.self.inside.tree.items c.self.inside.before c.self.inside.lines c.self.invariant c.self.inside.tree.spare c.args.self.now c.self.view_is

pub put_after-requires-clause-few : goal.put_after-requires-clause-few
put_after-requires-clause-few c =
    few-sum c.self.inside.tree.items c.self.inside.before c.self.inside.lines c.self.invariant c.self.inside.tree.spare c.args.self.now c.self.view_is c.args.run c.requires.fits

pub invariant_of-self : goal.invariant_of-self
invariant_of-self c =
    pushed-behind c.self.inside.tree.items c.self.inside.before c.self.inside.lines c.self.invariant c.self.inside.tree.spare c.args.self.now c.self.view_is c.args.run c.requires.fits c.put_after.new.tree.items c.put_after.result c.put_after.ensures.items c.requires.some c.put_after.new.tree.spare

pub returns-clause-front : goal.returns-clause-front
returns-clause-front c =
    front-behind c.self.inside.tree.items c.self.inside.before c.self.inside.lines c.self.invariant c.self.inside.tree.spare c.args.self.now c.self.view_is c.args.run c.requires.fits c.put_after.new.tree.items c.put_after.result c.put_after.ensures.items c.requires.some c.put_after.new.tree.spare

pub returns-clause-back : goal.returns-clause-back
returns-clause-back c =
    back-behind c.self.inside.tree.items c.self.inside.before c.self.inside.lines c.self.invariant c.self.inside.tree.spare c.args.self.now c.self.view_is c.args.run c.requires.fits c.put_after.new.tree.items c.put_after.result c.put_after.ensures.items c.requires.some c.put_after.new.tree.spare
