use Rattle.std.proofs.Common.{ap, ◌∙◌, arith}
use Rattle.line_hunks.specs.Run.{lines_in}
use Rattle.line_hunks.specs.Sides.{turned}
use Rattle.line_hunks.proofs.SideLaws.{all-lines}
use Rattle.line_hunks.proofs.Popping.{parted-at, front-at, order-at}
use Rattle.line_hunks.proofs.sides.Sides.seek.Goals as goal

pub find-id-requires : goal.find-id-requires
find-id-requires c =
    omega (
      arith,
      all-lines c.self.inside.tree.items c.self.inside.before c.self.inside.lines c.self.invariant c.self.inside.tree.spare c.push_back.new.self c.self.view_is,
      ap lines_in c.push_back.ensures.front,
      ap lines_in c.push_back.ensures.back,
      c.requires.within,
    )

pub invariant_of-self : goal.invariant_of-self
invariant_of-self c =
    parted-at c.self.inside.tree.items c.self.inside.before c.self.inside.lines c.self.invariant c.self.inside.tree.spare c.push_back.new.self c.self.view_is c.args.lines c.find-id.result.0 c.find-id.result.1 c.find-id.ensures c.prev-self-inside.result c.prev-self-inside.ensures
    c.remove.new.self.items c.remove.ensures.items c.remove.new.self.spare

pub returns-clause-order : goal.returns-clause-order
returns-clause-order c =
    order-at c.self.inside.tree.items c.self.inside.before c.self.inside.lines c.self.invariant c.self.inside.tree.spare c.push_back.new.self c.self.view_is c.args.lines c.find-id.result.0 c.find-id.result.1 c.find-id.ensures c.prev-self-inside.result c.prev-self-inside.ensures
    c.remove.new.self.items c.remove.ensures.items c.remove.new.self.spare
    ∙ ap (λ front. turned front c.push_back.new.self.back) c.push_back.ensures.front
    ∙ ap (turned c.args.self.now.front) c.push_back.ensures.back

pub returns-clause-before : goal.returns-clause-before
returns-clause-before c =
    omega (
      arith,
      front-at c.self.inside.tree.items c.self.inside.before c.self.inside.lines c.self.invariant c.self.inside.tree.spare c.push_back.new.self c.self.view_is c.args.lines c.find-id.result.0 c.find-id.result.1 c.find-id.ensures c.prev-self-inside.result c.prev-self-inside.ensures
          c.remove.new.self.items c.remove.ensures.items c.remove.new.self.spare,
    )

pub returns-clause-reach : goal.returns-clause-reach
returns-clause-reach c =
    omega (
      arith,
      front-at c.self.inside.tree.items c.self.inside.before c.self.inside.lines c.self.invariant c.self.inside.tree.spare c.push_back.new.self c.self.view_is c.args.lines c.find-id.result.0 c.find-id.result.1 c.find-id.ensures c.prev-self-inside.result c.prev-self-inside.ensures
          c.remove.new.self.items c.remove.ensures.items c.remove.new.self.spare,
      c.find-id.ensures.line,
      c.find-id.ensures.within,
    )
